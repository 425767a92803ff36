-- What an application's seat keeps beside the words still tells of its side after each event.
use Rattle.std.proofs.Common.{◌≡◌, ℕ, ◌+◌, ◌-◌, ◌%◌, ◌<◌, ◌≤◌, Bool, true, false, List, [], ◌∷◌, ◌++◌, length, map, take, refl, ap, sym, ◌∙◌, subst, arith}
use Rattle.std.{specs.Prelude.{◌==◌, if◌then◌else◌, All, Option, Some, None, slice_index, slice_set}, proofs.lemmas.List.{length-set, length-append}}
use Rattle.std.proofs.{lemmas.List.Elements.{All-nil, All-cons, All-append, All-push, All-map, All-contains}, Math.Nat.{mod-add-mod, mod-lt}}
use Rattle.zr_kinds.specs.declared.{place.{Place.{Place}, Note.{Note}}, ring.Rqe.{Rqe}}
use Rattle.area_layout.specs.Layout.{all_buffers, LiesIn}
use Rattle.board_face.specs.{Lists.{same_place}, Opened.{unseen}, Sides.{app_at}, SlotSteps.{side_gave, side_pushed, side_took_note, side_took_linear}}
use Rattle.board_face.specs.{Texts.{front_place, rest_place, further}, AppCalls.{HasHeld, HasLoan}}
use Rattle.board_face.specs.{AppEvents.{app_saw, fell_quiet, cut, held_origin, helds_without, released, lent, has_read, told_end}, Returns.{loans_out}}
use Rattle.board_face.specs.declared.answers.Polled.{Polled, TheVariants.{Note as got_note, Linear as got_linear, Empty as got_none, Ended as got_end}}
use Rattle.board_face.specs.{NicCalls.{apps_of}, declared.views.{parts.Setting.{Setting}, app.{Origin.TheVariants.{Note as of_note}, HeldPiece.{HeldPiece}}}}
use Rattle.board_face.specs.declared.views.app.{LentPiece.{LentPiece}, AppLook.{AppLook, TheVariants.{NoNote, NotQuiet}}, AppSide.{AppSide}}
use Rattle.board_face.proofs.{ListLemmas.{All-without, eqb_same}, Tallies.{one_if, tally-push}, Parts.{count-tally}, LiesLemmas.{loans-at}, WrittenLemmas.{loans-fewer}}
use Rattle.word_board.{specs.{Hands.{AppRests, AppLies, KnowsSlots, AppKeeps}, Polls.{Polls, end_known}}, proofs.LoansCounted.{count-raised, count-lowered}}

-- ---- one count raised or lowered

-- Where each count is f of its place, the counts with one more in the place i are g.
raised : (t : ℕ) (counts : List ℕ) (i : ℕ) (f g : ℕ → ℕ) → i < t → length counts ≡ t → ((b : ℕ) → b < t → slice_index counts b ≡ f b)
    → ((b : ℕ) → g b ≡ f b + one_if (i == b)) → (b : ℕ) → b < t → slice_index (slice_set counts i (slice_index counts i + 1)) b ≡ g b
raised t counts i f g within many are more b inside = omega (arith, count-raised counts i b (omega arith), are b inside, more b)

lowered : (t : ℕ) (counts : List ℕ) (i : ℕ) (f g : ℕ → ℕ) → i < t → length counts ≡ t → ((b : ℕ) → b < t → slice_index counts b ≡ f b)
    → ((b : ℕ) → g b + one_if (i == b) ≡ f b) → (b : ℕ) → b < t → slice_index (slice_set counts i (slice_index counts i - 1)) b ≡ g b
lowered t counts i f g within many are less b inside =
    let some : 0 < slice_index counts i = omega (arith, are i within, less i, ap one_if (eqb_same i)) in
    omega (arith, count-lowered counts i b (omega arith) some, are b inside, less b)

-- the next place of a ring
behind : {A : Type 0} (places k : ℕ) (xs : List A) (x : A) → k ≡ length xs % places → (k + 1) % places ≡ length (xs ++ x ∷ []) % places
behind places k xs x is =
    ap (λ n. (n + 1) % places) is ∙ (mod-add-mod (length xs) places 1 ∙ ap (λ n. n % places) (sym (length-append xs (x ∷ []))))

-- ---- where tokens lie

pub held-lies : (setting : Setting) (app : AppSide) (p : Place) → AppLies setting app → HasHeld app.view p → LiesIn setting.layout p
held-lies setting app p lies out =
    All-contains (LiesIn setting.layout) (map (λ h. h.place) app.view.helds) p (All-map (LiesIn setting.layout) (λ h. h.place) app.view.helds lies.helds) out

pub loan-lies : (setting : Setting) (app : AppSide) (p : Place) → AppLies setting app → HasLoan app.view p → LiesIn setting.layout p
loan-lies setting app p lies out =
    All-contains (LiesIn setting.layout) (map (λ l. l.place) app.view.loans) p (All-map (LiesIn setting.layout) (λ l. l.place) app.view.loans lies.loans) out

-- a loan out is one of those in its buffer
pub loan-some : (app : AppSide) (p : Place) → HasLoan app.view p → 0 < loans_out p.buffer app
loan-some app p out = omega (
  arith,
  loans-at app.view.loans p (λ q. q.buffer == p.buffer) out,
  ap one_if (eqb_same p.buffer),
  count-tally (λ (l : LentPiece). l.place.buffer == p.buffer) app.view.loans,
)

-- ---- which slot is next

pub note-within : (setting : Setting) (app : AppSide) (note entry : ℕ) (raw : Option ℕ) → KnowsSlots setting app note entry raw → 0 < setting.places
    → note < setting.places
note-within setting app note entry raw slots some = rw slots.next_note (mod-lt (length app.view.taken) some)

pub entry-within : (setting : Setting) (app : AppSide) (note entry : ℕ) (raw : Option ℕ) → KnowsSlots setting app note entry raw → 0 < setting.places
    → entry < setting.places
entry-within setting app note entry raw slots some = rw slots.next_entry (mod-lt (length app.view.written) some)

-- where it has settled it keeps no slot of a raw entry in mind
pub raw-none : (setting : Setting) (app : AppSide) (note entry : ℕ) (raw : Option ℕ) → KnowsSlots setting app note entry raw → app.view.settled ≡ true
    → raw ≡ None
raw-none setting app note entry None slots e = refl
raw-none setting app note entry (Some slot) slots e = absurd (let wrong : true ≡ false = sym e ∙ slots.last_raw.0 in cc)

-- ---- an event that changes neither spares nor what it is in the middle of

-- the side but for its held pieces and loans, what it took, wrote and read, and what it saw
abbrev pub rest_of : AppSide → AppSide
rest_of app = record {
  view = record app.view {
    settled = true;
    quiet = true;
    ended = true;
    helds = [];
    loans = [];
    returned = [];
    taken = [];
    written = [];
    reads = [];
    looks = [];
  };
  inside = record app.inside { note_slot = unseen; refill_slot = unseen; free_slots = []; raw_slot = None; end_seen = true };
}

module _ (setting : Setting) (app now : AppSide) (same : rest_of now ≡ rest_of app) where
  was_unscrubbed : now.view.scrubbed ≡ false → app.view.scrubbed ≡ false
  was_unscrubbed e = sym (ap (λ (s : AppSide). s.view.scrubbed) same) ∙ e

  rests : AppRests setting app → AppRests setting now
  rests r = record {
    making = ap (λ (s : AppSide). s.inside.making) same ∙ r.making;
    hands = ap (λ (s : AppSide). s.inside.hands) same ∙ r.hands;
    given = subst (λ (s : AppSide). length s.view.picked ≤ s.view.spares) (sym same) r.given;
    looked = ap (λ (s : AppSide). s.inside.end_unseen) same ∙ r.looked;
    searched = (
      ap (λ (s : AppSide). s.inside.words_without) same ∙ r.searched.0,
      ap (λ (s : AppSide). s.inside.reserve_seen_free) same ∙ r.searched.1,
    );
    owes = λ b. ap (λ (s : AppSide). slice_index s.inside.scrub_owes b) same ∙ r.owes b;
    unbegun = λ e. ap (λ (s : AppSide). s.inside.scrub_mark) same ∙ r.unbegun (was_unscrubbed e);
    lists = λ e. let lists = r.lists (was_unscrubbed e) in record {
      took = ap (λ (s : AppSide). length s.inside.scrub_took) same ∙ lists.took;
      owes = ap (λ (s : AppSide). length s.inside.scrub_owes) same ∙ lists.owes;
    };
  }

  owns : now.view.owns ≡ app.view.owns
  owns = ap (λ (s : AppSide). s.view.owns) same

  lies : All (λ h. LiesIn setting.layout h.place) now.view.helds → All (λ l. LiesIn setting.layout l.place) now.view.loans → AppLies setting app
      → AppLies setting now
  lies helds loans l = record {
    helds = helds;
    loans = loans;
    spares = rw owns l.spares;
    texts = rw owns l.texts;
    apart = rw owns l.apart;
  }

  pub kept : (note entry note' entry' : ℕ) (raw raw' : Option ℕ) (loans loans' filled : List ℕ)
      → All (λ h. LiesIn setting.layout h.place) now.view.helds → All (λ l. LiesIn setting.layout l.place) now.view.loans
      → KnowsSlots setting now note' entry' raw' → length loans' ≡ all_buffers setting.layout
      → ((b : ℕ) → b < all_buffers setting.layout → slice_index loans' b ≡ loans_out b now)
      → AppKeeps setting app note entry raw loans filled → AppKeeps setting now note' entry' raw' loans' filled
  kept note entry note' entry' raw raw' loans loans' filled helds lent slots many out k = record {
    set = ap (λ (s : AppSide). s.view.setting) same ∙ k.set;
    here = subst (λ a. a < apps_of setting) (sym (ap (λ (s : AppSide). s.view.app) same)) k.here;
    rests = rests k.rests;
    lies = lies helds lent k.lies;
    slots = slots;
    tokens = record { many = (many, k.tokens.many.1); out = out; lengths = rw owns k.tokens.lengths };
  }

-- ---- events of tokens

module _ (setting : Setting) (app : AppSide) (note entry : ℕ) (raw : Option ℕ) (loans filled : List ℕ)
    (k : AppKeeps setting app note entry raw loans filled) where
  -- a look alone
  pub kept-saw : (look : AppLook) → AppKeeps setting (app_at app (app_saw app.view look)) note entry raw loans filled
  kept-saw look =
      kept setting app (app_at app (app_saw app.view look)) refl note entry note entry raw raw loans loans filled k.lies.helds k.lies.loans
      (record { next_note = k.slots.next_note; next_entry = k.slots.next_entry; last_raw = k.slots.last_raw }) k.tokens.many.0 k.tokens.out k

  -- after a look at refill slots, of which some were seen free
  pub kept-quieted : (quiet : Bool) (slots : List ℕ) → AppKeeps setting (record {
    view = if quiet then fell_quiet app.view else app_saw app.view NotQuiet;
    inside = record app.inside { free_slots = slots };
  }) note entry raw loans filled
  kept-quieted true slots =
      kept setting app (record { view = fell_quiet app.view; inside = record app.inside { free_slots = slots } }) refl note entry note entry raw
      raw loans loans filled k.lies.helds k.lies.loans
      (record { next_note = k.slots.next_note; next_entry = k.slots.next_entry; last_raw = k.slots.last_raw }) k.tokens.many.0 k.tokens.out k
  kept-quieted false slots =
      kept setting app (record { view = app_saw app.view NotQuiet; inside = record app.inside { free_slots = slots } }) refl note entry note entry
      raw raw loans loans filled k.lies.helds k.lies.loans
      (record { next_note = k.slots.next_note; next_entry = k.slots.next_entry; last_raw = k.slots.last_raw }) k.tokens.many.0 k.tokens.out k

  pub kept-read : (p : Place) (from : ℕ) (bytes : List ℕ)
      → AppKeeps setting (app_at app (has_read app.view p from bytes)) note entry raw loans filled
  kept-read p from bytes =
      kept setting app (app_at app (has_read app.view p from bytes)) refl note entry note entry raw raw loans loans filled k.lies.helds
      k.lies.loans (record { next_note = k.slots.next_note; next_entry = k.slots.next_entry; last_raw = k.slots.last_raw }) k.tokens.many.0 k.tokens.out k

  without_lies : (p : Place) → All (λ h. LiesIn setting.layout h.place) (helds_without app.view p)
  without_lies p = All-without (λ (h : HeldPiece). LiesIn setting.layout h.place) (λ h. same_place p h.place) app.view.helds k.lies.helds

  pub kept-released : (p : Place) → AppKeeps setting (app_at app (released app.view p)) note entry raw loans filled
  kept-released p =
      kept setting app (app_at app (released app.view p)) refl note entry note entry raw raw loans loans filled (without_lies p) k.lies.loans
      (record { next_note = k.slots.next_note; next_entry = k.slots.next_entry; last_raw = k.slots.last_raw }) k.tokens.many.0 k.tokens.out k

  pub kept-cut : (p : Place) (at : ℕ) → HasHeld app.view p → at < p.len
      → AppKeeps setting (app_at app (cut app.view p at)) note entry raw loans filled
  kept-cut p at out rest =
      let whole = held-lies setting app p k.lies out in
      let P = λ (h : HeldPiece). LiesIn setting.layout h.place in
      let front : HeldPiece = record { place = front_place p at; origin = held_origin app.view p } in
      let back : HeldPiece = record { place = rest_place p at; origin = further (held_origin app.view p) at } in
      let bytes = whole.bytes in
      kept setting app (app_at app (cut app.view p at)) refl note entry note entry raw raw loans loans filled
      (All-append P (helds_without app.view p) (front ∷ back ∷ []) (without_lies p)
      (All-cons P front (back ∷ []) (record { buffer = whole.buffer; bytes = omega arith })
      (All-cons P back [] (record { buffer = whole.buffer; bytes = omega arith }) (All-nil P))))
      k.lies.loans
      (record { next_note = k.slots.next_note; next_entry = k.slots.next_entry; last_raw = k.slots.last_raw }) k.tokens.many.0 k.tokens.out k

  -- it lends a held piece
  pub kept-lent : (p : Place) → HasHeld app.view p
      → AppKeeps setting (app_at app (lent app.view p)) note entry raw (slice_set loans p.buffer (slice_index loans p.buffer + 1)) filled
  kept-lent p out =
      let now = app_at app (lent app.view p) in
      let one : LentPiece = record { place = p; origin = held_origin app.view p } in
      let whole = held-lies setting app p k.lies out in
      let loans' = slice_set loans p.buffer (slice_index loans p.buffer + 1) in
      kept setting app now refl note entry note entry raw raw loans loans' filled (without_lies p)
      (All-push (λ (l : LentPiece). LiesIn setting.layout l.place) app.view.loans one k.lies.loans whole)
      (record { next_note = k.slots.next_note; next_entry = k.slots.next_entry; last_raw = k.slots.last_raw })
      (length-set loans p.buffer (slice_index loans p.buffer + 1) ∙ k.tokens.many.0)
      (raised (all_buffers setting.layout) loans p.buffer (λ b. loans_out b app) (λ b. loans_out b now) whole.buffer k.tokens.many.0 k.tokens.out
      (λ b. omega (
        arith,
        count-tally (λ (l : LentPiece). l.place.buffer == b) now.view.loans,
        count-tally (λ (l : LentPiece). l.place.buffer == b) app.view.loans,
        tally-push (λ (l : LentPiece). l.place.buffer == b) app.view.loans one,
      )))
      k

  -- it gives a loan back
  pub kept-gave : (p : Place) → HasLoan app.view p
      → AppKeeps setting (side_gave app p) note ((entry + 1) % setting.places) raw (slice_set loans p.buffer (slice_index loans p.buffer - 1)) filled
  kept-gave p out =
      let whole = loan-lies setting app p k.lies out in
      let P = λ (l : LentPiece). LiesIn setting.layout l.place in
      kept setting app (side_gave app p) refl note entry note ((entry + 1) % setting.places) raw raw loans
      (slice_set loans p.buffer (slice_index loans p.buffer - 1)) filled k.lies.helds
      (All-without P (λ l. same_place p l.place) app.view.loans k.lies.loans)
      (record {
        next_note = k.slots.next_note;
        next_entry = behind setting.places entry app.view.written _ k.slots.next_entry;
        last_raw = k.slots.last_raw;
      })
      (length-set loans p.buffer (slice_index loans p.buffer - 1) ∙ k.tokens.many.0)
      (lowered (all_buffers setting.layout) loans p.buffer (λ b. loans_out b app) (λ b. loans_out b (side_gave app p)) whole.buffer k.tokens.many.0
      k.tokens.out (λ b. loans-fewer b app p out))
      k

  -- it pushes a raw entry, whose slot it keeps in mind
  pub kept-pushed : (raw_entry : Rqe) → entry < setting.places
      → AppKeeps setting (side_pushed app raw_entry) note ((entry + 1) % setting.places) (Some entry) loans filled
  kept-pushed raw_entry within =
      kept setting app (side_pushed app raw_entry) refl note entry note ((entry + 1) % setting.places) raw (Some entry) loans loans filled
      k.lies.helds k.lies.loans
      (record {
        next_note = k.slots.next_note;
        next_entry = behind setting.places entry app.view.written _ k.slots.next_entry;
        last_raw = (refl, within, ap (λ s. Some (length app.view.written % s.places)) k.set ∙ ap (λ n. Some n) (sym k.slots.next_entry));
      })
      k.tokens.many.0 k.tokens.out k

  -- it takes a note
  pub kept-took_note : (taken : Note) → LiesIn setting.layout taken.place
      → AppKeeps setting (side_took_note app taken) ((note + 1) % setting.places) entry raw loans filled
  kept-took_note taken whole =
      kept setting app (side_took_note app taken) refl note entry ((note + 1) % setting.places) entry raw raw loans loans filled
      (All-push (λ (h : HeldPiece). LiesIn setting.layout h.place) app.view.helds (record { place = taken.place; origin = of_note (length app.view.taken) 0 })
      k.lies.helds whole)
      k.lies.loans
      (record {
        next_note = behind setting.places note app.view.taken _ k.slots.next_note;
        next_entry = k.slots.next_entry;
        last_raw = k.slots.last_raw;
      })
      k.tokens.many.0 k.tokens.out k

  pub kept-took_linear : (taken : Note) (bytes : List ℕ)
      → AppKeeps setting (side_took_linear app taken bytes) ((note + 1) % setting.places) entry raw loans filled
  kept-took_linear taken bytes =
      kept setting app (side_took_linear app taken bytes) refl note entry ((note + 1) % setting.places) entry raw raw loans loans filled
      k.lies.helds k.lies.loans
      (record {
        next_note = behind setting.places note app.view.taken _ k.slots.next_note;
        next_entry = k.slots.next_entry;
        last_raw = k.slots.last_raw;
      })
      k.tokens.many.0 k.tokens.out k

  -- it knows whether the card has ended
  pub kept-end_known : (over : Bool) → AppKeeps setting (end_known app over) note entry raw loans filled
  kept-end_known over =
      kept setting app (end_known app over)
      (ap (λ unseen. let rest = rest_of app in record rest { inside = record rest.inside { end_unseen = unseen } }) (sym k.rests.looked)) note entry note entry raw raw loans loans filled k.lies.helds k.lies.loans
      (record { next_note = k.slots.next_note; next_entry = k.slots.next_entry; last_raw = k.slots.last_raw }) k.tokens.many.0 k.tokens.out k

  -- it was told so
  pub kept-told_end : AppKeeps setting (app_at app (told_end app.view)) note entry raw loans filled
  kept-told_end =
      kept setting app (app_at app (told_end app.view)) refl note entry note entry raw raw loans loans filled k.lies.helds k.lies.loans
      (record { next_note = k.slots.next_note; next_entry = k.slots.next_entry; last_raw = k.slots.last_raw }) k.tokens.many.0 k.tokens.out k

-- ---- a look for a note

-- the answer has a note
abbrev pub is_note : Polled → Bool
is_note (got_note taken held) = true
is_note (got_linear taken) = true
is_note got_none = false
is_note got_end = false

pub none-noted : (answer : Polled) → ((taken : Note) (held : Place) → answer ≡ got_note taken held → ⊥) → ((taken : Note) → answer ≡ got_linear taken → ⊥)
    → is_note answer ≡ false
none-noted (got_note taken held) split linear = absurd (split taken held refl)
none-noted (got_linear taken) split linear = absurd (linear taken refl)
none-noted got_none split linear = refl
none-noted got_end split linear = refl

module _ (setting : Setting) (app new : AppSide) (note entry : ℕ) (raw : Option ℕ) (loans filled linear : List ℕ)
    (k : AppKeeps setting app note entry raw loans filled) where
  pub kept-polled : (answer : Polled) → Polls app new linear answer
      → AppKeeps setting new (if is_note answer then (note + 1) % setting.places else note) entry raw loans filled
  kept-polled (got_note taken held) p =
      let known = kept-end_known setting app note entry raw loans filled k p.over in
      rw p.event (kept-took_note setting (end_known app p.over) note entry raw loans filled known taken
      (subst (λ s. LiesIn s.layout taken.place) k.set p.looked.lies))
  kept-polled (got_linear taken) p =
      let known = kept-end_known setting app note entry raw loans filled k p.over in
      rw p.event (kept-took_linear setting (end_known app p.over) note entry raw loans filled known taken (take taken.total linear))
  kept-polled got_none p =
      let known = kept-end_known setting app note entry raw loans filled k p.over in
      rw p.event (kept-saw setting (end_known app p.over) note entry raw loans filled known NoNote)
  kept-polled got_end p =
      let known = kept-end_known setting app note entry raw loans filled k p.over in
      rw p.event (kept-told_end setting (end_known app p.over) note entry raw loans filled known)
