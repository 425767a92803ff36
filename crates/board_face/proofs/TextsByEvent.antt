-- What each event leaves of the texts that are shown, while the area's bytes stay as they are.
use Rattle.std.proofs.{lemmas.List.{drop-drop}, Common.{◌<◌, ◌≡◌, ℕ, zero, suc, ◌+◌, ◌-◌, ◌≤◌, Bool, true, false, cond, List, [], ◌∷◌, ◌++◌, length}}
use Rattle.std.proofs.Common.{map, take, drop, refl, ap, sym, ◌∙◌, subst, ⊎_elim, arith, length-take, length-drop, get_or-take, get_or-drop, add_assoc}
use Rattle.std.{specs.Prelude.{◌≢◌, filter, ◌==◌, All, Contains, Option}, proofs.{lemmas.List.{drop-append-le, length-take-le}, Math.Seq.{take-length}}}
use Rattle.std.proofs.lemmas.List.Elements.{filter-append, All-nil, All-cons, All-head, All-tail, All-push, All-append, All-drop, All-filter, All-weaker}
use Rattle.std.proofs.lemmas.Bool.{false≢true, cases_lt}
use Rattle.zr_kinds.specs.declared.place.{Place.{Place}, Note.{Note}}
use Rattle.board_face.specs.{Lists.{at_first, same_place}, Tokens.{next_place, filled_by, same_filling}, Texts.{further, front_place, rest_place}}
use Rattle.board_face.specs.NicEvents.{text_done, fresh, placed, sent, text_at}
use Rattle.board_face.specs.AppEvents.{took_note, took_linear, held_origin, helds_without, cut, released, lent, loan_origin, abandoned, got_spare, owns_without}
use Rattle.board_face.specs.{AppEvents.{filled, own_bytes, begin_place, lent_own}, NicCalls.{HasPiece}, AppCalls.{HasHeld, HasLoan, HasSpare}, Sides.{nic_at, app_at}}
use Rattle.board_face.specs.{Holders.{sent_to, on_way, ended_in}, Counts.{EndedWereReturned}}
use Rattle.board_face.specs.Shown.{IsShown, first_bytes, bytes_sent, origin_bytes, text_of, owed_loans, CardIsShown, AppIsShown}
use Rattle.board_face.specs.declared.views.{parts.{Filling.{Filling}, Making.{Making}}, nic.{PlacedText.{PlacedText}, SentNote.{SentNote}, NicView.{NicView}}}
use Rattle.board_face.specs.declared.views.{nic.NicSide.{NicSide}, app.{Origin.{Origin, TheVariants.{Note as of_note, Copied as of_copy}}, HeldPiece.{HeldPiece}}}
use Rattle.board_face.specs.declared.views.app.{LentPiece.{LentPiece}, SpareOwn.{SpareOwn}, AppInside.{AppInside}, AppView.{AppView}, AppSide.{AppSide}}
use Rattle.board_face.proofs.{ListLemmas.{same_place-is, same_place-refl, same_filling-is, same_filling-refl, All-without}, Tallies.{length-tally}}
use Rattle.board_face.proofs.{Parts.{returned_in-count}, NicLemmas.{making_at, sent_to-other, sent_to-same, drop-push}}
use Rattle.board_face.proofs.{AppLemmas.{after-taken, scrubbed_side, SameHoldings}, RelayLemmas.{bytes_sent-push, bytes_sent-past, take-drop-none}}
use Rattle.board_face.specs.Laws.{IsNextNote}

-- ---- lists

first-case : {A B Q : Type 0} (f : A → Q) (g : A → B) (P : Q → B → Type 0) (q : Q) (c : Bool) (x : A) (rest : B) → (c ≡ true → f x ≡ q)
    → P (f x) (g x) → (c ≡ false → P q rest) → P q (cond c (g x) rest)
first-case f g P q true x rest is here there = subst (λ y. P y (g x)) (is refl) here
first-case f g P q false x rest is here there = there refl

-- what holds of each element holds of the first that shows q
All-at_first : {A B Q : Type 0} (f : A → Q) (g : A → B) (other : B) (P : Q → B → Type 0) (same : Q → Bool) (q : Q)
    → ((y : Q) → same y ≡ true → y ≡ q) → same q ≡ true → (xs : List A)
    → Contains (map f xs) q → All (λ x. P (f x) (g x)) xs → P q (at_first (λ x. same (f x)) g other xs)
All-at_first f g other P same q is refls [] (k, there, e) all = absurd (omega arith)
All-at_first f g other P same q is refls (x ∷ xs) (zero, there, e) all =
    first-case f g P q (same (f x)) x (at_first (λ y. same (f y)) g other xs) (is (f x)) (All-head (λ y. P (f y) (g y)) x xs all)
    (λ misses. absurd (false≢true (sym misses ∙ (ap same e ∙ refls))))
All-at_first f g other P same q is refls (x ∷ xs) (suc k, there, e) all =
    first-case f g P q (same (f x)) x (at_first (λ y. same (f y)) g other xs) (is (f x)) (All-head (λ y. P (f y) (g y)) x xs all)
    (λ misses. All-at_first f g other P same q is refls xs (k, omega arith, e) (All-tail (λ y. P (f y) (g y)) x xs all))

All-ended : {A : Type 0} (P : A → Type 0) (h h' w : ℕ) (xs : List A) → h' ≡ h + w → All P (drop h xs) → All P (drop h' xs)
All-ended P h h' w xs e all = rw (e, sym (drop-drop w h xs)) (All-drop P w (drop h xs) all)

module _ (byte : ℕ → ℕ → ℕ) where
  -- ---- texts by their origin

  empty-text : (place : Place) (text : List ℕ) → text ≡ [] → length text ≡ place.len → place.len ≡ 0
  empty-text place text none len = sym len ∙ ap length none

  take-zero : (n : ℕ) (xs : List ℕ) → n ≡ 0 → take n xs ≡ []
  take-zero n xs e = rw e refl

  -- a text stays the same, however many notes follow
  shown-push : (notes : List SentNote) (s : SentNote) (o : Origin) (place : Place) → IsShown byte place (origin_bytes notes o place.len)
      → IsShown byte place (origin_bytes (notes ++ s ∷ []) o place.len)
  shown-push notes s (of_copy text) place shown = shown
  shown-push notes s (of_note k at) place shown =
      ⊎_elim
      (λ within. rw (bytes_sent-push k notes s within) shown)
      (λ past.
      let none : take place.len (drop at (bytes_sent k notes)) ≡ [] = ap (λ text. take place.len (drop at text)) (bytes_sent-past k notes past)
      ∙ take-drop-none place.len at in
      let empty : place.len ≡ 0 = empty-text place _ none shown.len in
      record { len = rw (take-zero place.len (drop at (bytes_sent k (notes ++ s ∷ []))) empty) (sym empty); bytes = λ i small. absurd (omega arith) })
      (cases_lt k (length notes))

  -- ---- texts that an application goes on with

  -- where more of what was owed was ended, by an entry in hand or a scrub, all texts that are left stay shown
  pub AppIsShown-ended : (nic nic' : NicSide) (app : AppSide) (inside : AppInside) → nic'.view.sent ≡ nic.view.sent
      → ((b : ℕ) → ended_in b nic app ≤ ended_in b nic' (record app { inside = inside })) → AppIsShown byte nic app
      → AppIsShown byte nic' (record app { inside = inside })
  AppIsShown-ended nic nic' app inside sents ends shown = record {
    sent = rw sents shown.sent;
    helds = rw sents shown.helds;
    spares = shown.spares;
    loans = rw sents shown.loans;
    owed = λ b.
        let now : AppSide = record app { inside = inside } in
        let h = ended_in b nic app in
        let h' = ended_in b nic' now in
        rw sents (All-ended (λ (l : LentPiece). IsShown byte l.place (text_of nic app l.origin l.place)) h h' (h' - h)
        (filter (λ (l : LentPiece). l.place.buffer == b) app.view.returned) (let more = ends b in omega arith) (shown.owed b));
  }

  -- ---- the card's events

  pub CardIsShown-placed : (nic : NicSide) (own : Filling) (bytes : List ℕ) → IsShown byte (next_place own (length bytes)) bytes → CardIsShown byte nic
      → CardIsShown byte (nic_at nic (placed nic.view own bytes))
  CardIsShown-placed nic own bytes new shown = record {
    pieces = All-push
        (λ (p : PlacedText). IsShown byte p.place p.bytes) nic.view.pieces _ shown.pieces new;
  }

  pub CardIsShown-sent : (nic : NicSide) (a : ℕ) (note : Note) → CardIsShown byte nic → CardIsShown byte (nic_at nic (sent nic.view a note))
  CardIsShown-sent nic a note shown = record {
    pieces = All-without (λ (p : PlacedText). IsShown byte p.place p.bytes)
        (λ p. same_place note.place p.place) nic.view.pieces shown.pieces;
  }

  pub CardIsShown-same : (nic : NicSide) (v : NicView) → v.pieces ≡ nic.view.pieces → CardIsShown byte nic → CardIsShown byte (nic_at nic v)
  CardIsShown-same nic v same shown = record { pieces = rw same shown.pieces }

  -- the text that goes out with a piece is shown
  pub IsShown-text_at : (nic : NicSide) (place : Place) → HasPiece nic.view place → CardIsShown byte nic → IsShown byte place (text_at nic.view place)
  IsShown-text_at nic place out shown =
      All-at_first (λ (p : PlacedText). p.place) (λ p. p.bytes) [] (IsShown byte) (same_place place) place (same_place-is place)
      (same_place-refl place) nic.view.pieces out shown.pieces

  pub AppIsShown-nic : (nic : NicSide) (v : NicView) (app : AppSide) → v.sent ≡ nic.view.sent → v.dealt ≡ nic.view.dealt → AppIsShown byte nic app
      → AppIsShown byte (nic_at nic v) app
  AppIsShown-nic nic v app sents deals shown = AppIsShown-ended nic (nic_at nic v) app app.inside sents (λ b. rw deals (omega arith)) shown

  pub AppIsShown-sent_other : (nic : NicSide) (v : NicView) (app : AppSide) (s : SentNote) → v.sent ≡ nic.view.sent ++ s ∷ []
      → v.dealt ≡ nic.view.dealt → s.app ≢ app.view.app → AppIsShown byte nic app → AppIsShown byte (nic_at nic v) app
  AppIsShown-sent_other nic v app s sents deals other shown =
      let same : filter (λ (x : SentNote). x.app == app.view.app) v.sent
      ≡ sent_to app.view.app nic = rw sents (sent_to-other app.view.app nic.view.sent s other) in
      record {
        sent = rw same shown.sent;
        helds = rw same shown.helds;
        spares = shown.spares;
        loans = rw same shown.loans;
        owed = λ b. rw (same, deals) (shown.owed b);
      }

  -- to the application that a note is for, the piece on its way is shown
  pub AppIsShown-sent : (nic : NicSide) (v : NicView) (app : AppSide) (s : SentNote) → v.sent ≡ nic.view.sent ++ s ∷ [] → v.dealt ≡ nic.view.dealt
      → s.app ≡ app.view.app → length app.view.taken ≤ length (sent_to app.view.app nic)
      → (s.note.split ≡ true → IsShown byte s.note.place s.bytes) → AppIsShown byte nic app → AppIsShown byte (nic_at nic v) app
  AppIsShown-sent nic v app s sents deals same within new shown =
      let longer : filter (λ (x : SentNote). x.app == app.view.app) v.sent
      ≡ sent_to app.view.app nic ++ s ∷ [] = rw sents (sent_to-same app.view.app nic.view.sent s same) in
      let notes = sent_to app.view.app nic in
      let LentIs : LentPiece → Type 0 = λ l. IsShown byte l.place (origin_bytes notes l.origin l.place.len) in
      let LentStays : LentPiece → Type 0 = λ l. IsShown byte l.place (origin_bytes (notes ++ s ∷ []) l.origin l.place.len) in
      record {
        sent = rw (longer, drop-push (length app.view.taken) notes s within)
            (All-push (λ (x : SentNote). x.note.split ≡ true → IsShown byte x.note.place x.bytes) (on_way nic app) s shown.sent new);
        helds = rw longer (All-weaker (λ (h : HeldPiece). IsShown byte h.place (origin_bytes notes h.origin h.place.len))
            (λ (h : HeldPiece). IsShown byte h.place (origin_bytes (notes ++ s ∷ []) h.origin h.place.len))
            (λ h is. shown-push notes s h.origin h.place is) app.view.helds shown.helds);
        spares = shown.spares;
        loans = rw longer (All-weaker LentIs LentStays (λ l is. shown-push notes s l.origin l.place is) app.view.loans shown.loans);
        owed = λ b. rw (longer, deals) (All-weaker LentIs LentStays (λ l is. shown-push notes s l.origin l.place is) (owed_loans b nic app) (shown.owed b));
      }

  -- entries that are dealt with end what is owed from its begin
  pub AppIsShown-dealt : (nic : NicSide) (v : NicView) (app : AppSide) (w : ℕ → ℕ) → v.sent ≡ nic.view.sent
      → ((b : ℕ) → ended_in b (nic_at nic v) app ≡ ended_in b nic app + w b) → AppIsShown byte nic app → AppIsShown byte (nic_at nic v) app
  AppIsShown-dealt nic v app w sents ends shown = AppIsShown-ended nic (nic_at nic v) app app.inside sents (λ b. omega (arith, ends b)) shown

  -- ---- an application's events

  shown-note : (note : Note) (s : SentNote) (k : ℕ) (notes rest : List SentNote) → drop k notes ≡ s ∷ rest → s.note ≡ note
      → IsShown byte s.note.place s.bytes → IsShown byte note.place (origin_bytes notes (of_note k 0) note.place.len)
  shown-note note s k notes rest way same shown =
      let bytes : bytes_sent k notes ≡ s.bytes = ap first_bytes way in
      let here : IsShown byte note.place s.bytes = subst (λ (n : Note). IsShown byte n.place s.bytes) same shown in
      rw bytes (subst (λ (text : List ℕ). IsShown byte note.place text) (sym (ap (λ n. take n s.bytes) (sym here.len) ∙ take-length s.bytes)) here)

  -- the piece of a note that is taken is held
  pub AppIsShown-took_note : (nic : NicSide) (app : AppSide) (note : Note) → IsNextNote nic app note → note.split ≡ true → AppIsShown byte nic app
      → AppIsShown byte nic (app_at app (took_note app.view note))
  AppIsShown-took_note nic app note next split shown =
      let P : SentNote → Type 0 = λ x. x.note.split ≡ true → IsShown byte x.note.place x.bytes in
      let way : All P (next.next ∷ next.rest) = rw next.way at shown.sent in
      let first : IsShown byte next.next.note.place next.next.bytes = All-head P next.next next.rest way (ap (λ (n : Note). n.split) next.same ∙ split) in
      record {
        sent = rw (after-taken nic app (record { note = note; bytes = [] }) next.next next.rest next.way) (All-tail P next.next next.rest way);
        helds = All-push (λ (h : HeldPiece). IsShown byte h.place (text_of nic app h.origin h.place)) app.view.helds _ shown.helds
            (shown-note note next.next (length app.view.taken) (sent_to app.view.app nic) next.rest next.way next.same first);
        spares = shown.spares;
        loans = shown.loans;
        owed = shown.owed;
      }

  pub AppIsShown-took_linear : (nic : NicSide) (app : AppSide) (note : Note) (bytes : List ℕ) → IsNextNote nic app note → AppIsShown byte nic app
      → AppIsShown byte nic (app_at app (took_linear app.view note bytes))
  AppIsShown-took_linear nic app note bytes next shown =
      let P : SentNote → Type 0 = λ x. x.note.split ≡ true → IsShown byte x.note.place x.bytes in
      let way : All P (next.next ∷ next.rest) = rw next.way at shown.sent in
      record {
        sent = rw (after-taken nic app (record { note = note; bytes = bytes }) next.next next.rest next.way) (All-tail P next.next next.rest way);
        helds = shown.helds;
        spares = shown.spares;
        loans = shown.loans;
        owed = shown.owed;
      }

  -- ---- pieces

  front-of : (place : Place) (at : ℕ) (text : List ℕ) → at ≤ place.len → IsShown byte place (take place.len text)
      → IsShown byte (front_place place at) (take at text)
  front-of place at text within shown = record {
    len = length-take-le at text (omega (arith, shown.len, length-take place.len text));
    bytes = λ i small. shown.bytes i (omega arith) ∙ (get_or-take place.len text i 0 (omega arith) ∙ sym (get_or-take at text i 0 small));
  }

  rest-of : (place : Place) (at : ℕ) (text : List ℕ) → at ≤ place.len → IsShown byte place (take place.len text)
      → IsShown byte (rest_place place at) (take (place.len - at) (drop at text))
  rest-of place at text within shown = record {
    len = length-take-le (place.len - at) (drop at text) (omega (arith, shown.len, length-take place.len text, length-drop at text));
    bytes = λ i small.
        ap (byte place.buffer) (add_assoc place.offset at i)
        ∙ (shown.bytes (at + i) (omega arith) ∙ (get_or-take place.len text (at + i) 0 (omega arith)
        ∙ sym (get_or-take (place.len - at) (drop at text) i 0 small ∙ get_or-drop at text i 0)));
  }

  shown-front : (notes : List SentNote) (o : Origin) (place : Place) (at : ℕ) → at ≤ place.len → IsShown byte place (origin_bytes notes o place.len)
      → IsShown byte (front_place place at) (origin_bytes notes o at)
  shown-front notes (of_note k from) place at within shown = front-of place at (drop from (bytes_sent k notes)) within shown
  shown-front notes (of_copy text) place at within shown = front-of place at text within shown

  shown-rest : (notes : List SentNote) (o : Origin) (place : Place) (at : ℕ) → at ≤ place.len → IsShown byte place (origin_bytes notes o place.len)
      → IsShown byte (rest_place place at) (origin_bytes notes (further o at) (place.len - at))
  shown-rest notes (of_note k from) place at within shown = rw (sym (drop-drop at from (bytes_sent k notes)))
      (rest-of place at (drop from (bytes_sent k notes)) within shown)
  shown-rest notes (of_copy text) place at within shown = rest-of place at text within shown

  -- a held piece's text is shown
  pub IsShown-held : (nic : NicSide) (app : AppSide) (place : Place) → HasHeld app.view place → AppIsShown byte nic app
      → IsShown byte place (text_of nic app (held_origin app.view place) place)
  IsShown-held nic app place out shown =
      All-at_first (λ (h : HeldPiece). h.place) (λ h. h.origin) (of_copy []) (λ p o. IsShown byte p (text_of nic app o p)) (same_place place) place
      (same_place-is place) (same_place-refl place) app.view.helds out shown.helds

  -- so is a loan's
  pub IsShown-loan : (nic : NicSide) (app : AppSide) (place : Place) → HasLoan app.view place → AppIsShown byte nic app
      → IsShown byte place (text_of nic app (loan_origin app.view place) place)
  IsShown-loan nic app place out shown =
      All-at_first (λ (l : LentPiece). l.place) (λ l. l.origin) (of_copy []) (λ p o. IsShown byte p (text_of nic app o p)) (same_place place) place
      (same_place-is place) (same_place-refl place) app.view.loans out shown.loans

  helds-without : (nic : NicSide) (app : AppSide) (place : Place) → AppIsShown byte nic app
      → All (λ (h : HeldPiece). IsShown byte h.place (text_of nic app h.origin h.place)) (helds_without app.view place)
  helds-without nic app place shown = All-without (λ (h : HeldPiece). IsShown byte h.place (text_of nic app h.origin h.place))
      (λ h. same_place place h.place) app.view.helds shown.helds

  pub AppIsShown-cut : (nic : NicSide) (app : AppSide) (place : Place) (at : ℕ) → HasHeld app.view place → at ≤ place.len → AppIsShown byte nic app
      → AppIsShown byte nic (app_at app (cut app.view place at))
  AppIsShown-cut nic app place at out within shown =
      let P : HeldPiece → Type 0 = λ h. IsShown byte h.place (text_of nic app h.origin h.place) in
      let held = IsShown-held nic app place out shown in
      let notes = sent_to app.view.app nic in
      let o = held_origin app.view place in
      let front : HeldPiece = record { place = front_place place at; origin = o } in
      let rest : HeldPiece = record { place = rest_place place at; origin = further o at } in
      assumption (All-append P (helds_without app.view place) (front ∷ rest ∷ []) (helds-without nic app place shown) (All-cons P front (rest ∷ []) (shown-front notes o place at within held) (All-cons P rest [] (shown-rest notes o place at within held) (All-nil P))))

  pub AppIsShown-released : (nic : NicSide) (app : AppSide) (place : Place) → AppIsShown byte nic app
      → AppIsShown byte nic (app_at app (released app.view place))
  AppIsShown-released nic app place shown = assumption (helds-without nic app place shown)

  -- ---- loans

  pub AppIsShown-lent : (nic : NicSide) (app : AppSide) (place : Place) → HasHeld app.view place → AppIsShown byte nic app
      → AppIsShown byte nic (app_at app (lent app.view place))
  AppIsShown-lent nic app place out shown = assumption (helds-without nic app place shown, All-push (λ (l : LentPiece). IsShown byte l.place (text_of nic app l.origin l.place)) app.view.loans _ shown.loans (IsShown-held nic app place out shown))

  -- a loan that comes back stays shown while it is owed
  pub AppIsShown-abandoned : (nic : NicSide) (app : AppSide) (place : Place) → HasLoan app.view place → ((b : ℕ) → EndedWereReturned b nic app)
      → AppIsShown byte nic app → AppIsShown byte nic (app_at app (abandoned app.view place))
  AppIsShown-abandoned nic app place out sound shown =
      let P : LentPiece → Type 0 = λ l. IsShown byte l.place (text_of nic app l.origin l.place) in
      let one : LentPiece = record { place = place; origin = loan_origin app.view place } in
      let is : P one = IsShown-loan nic app place out shown in
      record {
        sent = shown.sent;
        helds = shown.helds;
        spares = shown.spares;
        loans = All-without P (λ (l : LentPiece). same_place place l.place) app.view.loans shown.loans;
        owed = λ b.
            let q : LentPiece → Bool = λ l. l.place.buffer == b in
            let h = ended_in b nic app in
            let within : h ≤ length (filter q app.view.returned) = omega
            (arith, (sound b).ended, returned_in-count b app, length-tally q app.view.returned) in
            rw (filter-append q app.view.returned (one ∷ []), drop-append-le h (filter q app.view.returned) (filter q (one ∷ [])) within)
            (All-append P (owed_loans b nic app) (filter q (one ∷ [])) (shown.owed b) (All-filter q P (one ∷ []) (All-cons P one [] is (All-nil P))));
      }

  -- ---- spares

  -- an empty text is shown anywhere
  shown-empty : (buffer : ℕ) → IsShown byte (begin_place buffer 0) []
  shown-empty buffer = record { len = refl; bytes = λ i small. absurd (omega arith) }

  pub AppIsShown-got_spare : (nic : NicSide) (app : AppSide) (buffer : ℕ) → AppIsShown byte nic app
      → AppIsShown byte nic (app_at app (got_spare app.view buffer))
  AppIsShown-got_spare nic app buffer shown = assumption (All-push (λ (s : SpareOwn). IsShown byte (begin_place s.own.buffer (length s.bytes)) s.bytes) app.view.owns (record { own = fresh app.view.setting buffer; bytes = [] }) shown.spares (shown-empty buffer))

  owns-without : (nic : NicSide) (app : AppSide) (own : Filling) → AppIsShown byte nic app
      → All (λ (s : SpareOwn). IsShown byte (begin_place s.own.buffer (length s.bytes)) s.bytes) (owns_without app.view own)
  owns-without nic app own shown = All-without (λ (s : SpareOwn). IsShown byte (begin_place s.own.buffer (length s.bytes)) s.bytes)
      (λ s. same_filling own s.own) app.view.owns shown.spares

  pub AppIsShown-filled : (nic : NicSide) (app : AppSide) (own : Filling) (bytes : List ℕ) → IsShown byte (begin_place own.buffer (length bytes)) bytes
      → AppIsShown byte nic app → AppIsShown byte nic (app_at app (filled app.view own bytes))
  AppIsShown-filled nic app own bytes new shown = assumption (All-push (λ (s : SpareOwn). IsShown byte (begin_place s.own.buffer (length s.bytes)) s.bytes) (owns_without app.view own) (record { own = filled_by own (length bytes); bytes = bytes }) (owns-without nic app own shown) new)

  pub AppIsShown-lent_own : (nic : NicSide) (app : AppSide) (own : Filling) → HasSpare app.view own → AppIsShown byte nic app
      → AppIsShown byte nic (app_at app (lent_own app.view own))
  AppIsShown-lent_own nic app own out shown =
      let bytes = own_bytes app.view own in
      let is : IsShown byte (begin_place own.buffer (length bytes)) bytes =
      All-at_first (λ (s : SpareOwn). s.own) (λ s. s.bytes) [] (λ o text. IsShown byte (begin_place o.buffer (length text)) text) (same_filling own) own
      (same_filling-is own) (same_filling-refl own) app.view.owns out shown.spares in
      assumption (owns-without nic app own shown, All-push (λ (l : LentPiece). IsShown byte l.place (text_of nic app l.origin l.place)) app.view.loans (record { place = begin_place own.buffer (length bytes); origin = of_copy bytes }) shown.loans (rw (take-length bytes) is))

  -- ---- all else

  -- a scrub ends what is owed from its begin
  pub AppIsShown-scrubbed : (nic : NicSide) (app : AppSide) (took : List ℕ) (w : ℕ → ℕ)
      → ((b : ℕ) → ended_in b nic (scrubbed_side app took) ≡ ended_in b nic app + w b) → AppIsShown byte nic app
      → AppIsShown byte nic (scrubbed_side app took)
  AppIsShown-scrubbed nic app took w ends shown =
      let is = AppIsShown-ended nic nic app (record app.inside { scrub_took = took }) refl (λ b. omega (arith, ends b)) shown in assumption

  -- an event that touches no holding leaves all texts
  pub AppIsShown-same : (nic : NicSide) (app : AppSide) (v : AppView) → SameHoldings app.view v → AppIsShown byte nic app
      → AppIsShown byte nic (app_at app v)
  AppIsShown-same nic app v same shown = record {
    sent = rw (same.app, same.taken) shown.sent;
    helds = rw (same.app, same.helds) shown.helds;
    spares = rw same.owns shown.spares;
    loans = rw (same.app, same.loans) shown.loans;
    owed = λ b. rw (same.app, same.returned) (shown.owed b);
  }

  -- ---- bytes that are stored where no text lies

  pub shown-stored : (byte' : ℕ → ℕ → ℕ) (place : Place) (text : List ℕ)
      → ((i : ℕ) → i < place.len → byte' place.buffer (place.offset + i) ≡ byte place.buffer (place.offset + i)) → IsShown byte place text
      → IsShown byte' place text
  shown-stored byte' place text same shown = record { len = shown.len; bytes = λ i small. same i small ∙ shown.bytes i small }

  pub CardIsShown-stored : (byte' : ℕ → ℕ → ℕ) (nic : NicSide)
      → All (λ (p : PlacedText). (i : ℕ) → i < p.place.len
      → byte' p.place.buffer (p.place.offset + i) ≡ byte p.place.buffer (p.place.offset + i)) nic.view.pieces → CardIsShown byte nic
      → CardIsShown byte' nic
  CardIsShown-stored byte' nic same shown = record { pieces = λ k d small. shown-stored byte' _ _ (same k d small) (shown.pieces k d small) }

  -- ---- a placing in its two parts

  -- a text that is complete is shown from then on
  pub CardIsShown-text_done : (nic : NicSide) (own : Filling) (bytes : List ℕ) (making : Option Making) → IsShown byte (next_place own (length bytes)) bytes
      → CardIsShown byte nic → CardIsShown byte (making_at nic (text_done nic.view own bytes) making)
  CardIsShown-text_done nic own bytes making new shown = record {
    pieces = All-push
        (λ (p : PlacedText). IsShown byte p.place p.bytes) nic.view.pieces _ shown.pieces new;
  }

  -- neither part touches an application's texts
  pub AppIsShown-making : (nic : NicSide) (v : NicView) (making : Option Making) (app : AppSide) → v.sent ≡ nic.view.sent → v.dealt ≡ nic.view.dealt
      → AppIsShown byte nic app → AppIsShown byte (making_at nic v making) app
  AppIsShown-making nic v making app sents deals shown = AppIsShown-ended nic (making_at nic v making) app app.inside sents (λ b. rw deals (omega arith)) shown

  pub AppIsShown-text_done : (nic : NicSide) (own : Filling) (bytes : List ℕ) (making : Option Making) (app : AppSide) → AppIsShown byte nic app
      → AppIsShown byte (making_at nic (text_done nic.view own bytes) making) app
  AppIsShown-text_done nic own bytes making app shown = AppIsShown-making nic (text_done nic.view own bytes) making app refl refl shown

  -- the bytes at the place stay as they are
  abbrev pub IsKept : (ℕ → ℕ → ℕ) → Place → Type 0
  IsKept byte' place = (i : ℕ) → i < place.len → byte' place.buffer (place.offset + i) ≡ byte place.buffer (place.offset + i)

  pub AppIsShown-stored : (byte' : ℕ → ℕ → ℕ) (nic : NicSide) (app : AppSide)
      → All (λ (s : SentNote). s.note.split ≡ true → IsKept byte' s.note.place) (on_way nic app)
      → All (λ (h : HeldPiece). IsKept byte' h.place) app.view.helds
      → All (λ (s : SpareOwn). IsKept byte' (begin_place s.own.buffer (length s.bytes))) app.view.owns
      → All (λ (l : LentPiece). IsKept byte' l.place) app.view.loans
      → ((b : ℕ) → All (λ (l : LentPiece). IsKept byte' l.place) (owed_loans b nic app))
      → AppIsShown byte nic app → AppIsShown byte' nic app
  AppIsShown-stored byte' nic app sents helds spares loans oweds shown = record {
    sent = λ k d small split. shown-stored byte' _ _ (sents k d small split) (shown.sent k d small split);
    helds = λ k d small. shown-stored byte' _ _ (helds k d small) (shown.helds k d small);
    spares = λ k d small. shown-stored byte' _ _ (spares k d small) (shown.spares k d small);
    loans = λ k d small. shown-stored byte' _ _ (loans k d small) (shown.loans k d small);
    owed = λ b k d small. shown-stored byte' _ _ (oweds b k d small) (shown.owed b k d small);
  }
