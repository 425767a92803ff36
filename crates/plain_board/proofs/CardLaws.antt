-- The log goes on to tell of a board after each event of the card.
use Rattle.std.proofs.Common.{◌≡◌, ◌∙◌, ℕ, ◌+◌, ◌<◌, ◌≤◌, Bool, true, false, List, [], ◌∷◌, ◌++◌, length, eqb, ltb, Some, refl, sym, ap, arith, ⊎_elim, if◌then◌else◌, leb}
use Rattle.std.{specs.{Prelude.{◌||◌, ◌%◌, not, count_by}, List.{list_any, list_all, flat_map}}, proofs.lemmas.Bool.{lt-ltb, le-leb, eq-eqb, cases_lt, or_right}}
use Rattle.std.proofs.lemmas.List.{append-nil, flat_map_more, map-append, Elements.{All-contains}}
use Rattle.area_layout.specs.Layout.{size_of, pool_buffers}
use Rattle.zr_kinds.specs.{declared.{event.Event.{Event}, holding.Holding.{Holding}}, Setting.{Setting, total_buffers, buffers_of_areas as run_pool_buffers}}
use Rattle.zr_kinds.{specs.Holders.{Holdings, after, is_app, is_apart, is_buffer, is_same}, proofs.Weighing.{Moves, one_if, weight-append}}
use Rattle.zr_kinds.specs.declared.event.Event.TheVariants as event
use Rattle.zr_kinds.specs.declared.holding.Holding.TheVariants as holding
use Rattle.board_face.specs.{Laws.{AllSides, by_card, pool_of, user_of}, NicCalls.{HasOwn}, Sides.{IsApp, side_in}}
use Rattle.board_face.specs.{BoardSteps.{CardStep, CardCan, apply, card, card_view, takes, places, sends, shuts, honours, strays}, Holdings.{card_ends, card_begins}}
use Rattle.zr_kinds.{specs.declared.{place.{Note.{Note}, Place.{Place}}, ring.Rqe.{Rqe}}, proofs.Booleans.{if-le}}
use Rattle.board_face.specs.NicEvents.{took, placed, sent, gave_up, shut, passed_over, honoured}
use Rattle.board_face.specs.{Places.{places_of, ends_behind}, Tokens.{FitsBuffer}, declared.views.parts.Setting.{Setting as Shared}}
use Rattle.board_face.{specs.declared.views.{parts.Filling.{Filling}, nic.{Dealt.{Dealt}, NicView.{NicView}, SentNote.{SentNote}}}, proofs.Tallies.{one_if as one}}
use Rattle.plain_board.specs.IsLogged.{AreSound, KeepsLog, Logs, setting_of_sides}
use Rattle.plain_board.specs.{Settings.{setting_of_layout}, Plain.{AreHoldersOf, weight}, Tallies.{dealt_as, is_stray_event, sent_as, strays_of, was_stray}}
use Rattle.plain_board.proofs.{EventCounting.{buffer-there, ends, ends-weight, held-some, length-held}, Following.{Becomes, Shifts, follows-by, logged-same, logs-by, was-there}}
use Rattle.plain_board.proofs.Needs.{NoneReturns-card, app-there, both-said, one-ends, pool-said, within-by, within-there}
use Rattle.plain_board.proofs.{Settings.{pool_buffers-same}, Shifts.{here-more, step-same, step-shifts}}
use Rattle.plain_board.proofs.{Tallying.{CardGains, Tallies, TellsNothing, card-stays, count-push, keeps-card, tallies-card}, Weighing.{all-pass, weight-le}}

-- an event that tells of no loan, of a card that dealt with no entry
tallies-unstrayed : (e : Event) (s : AllSides) (v : NicView) → ((a : ℕ) → TellsNothing a e) → is_stray_event e ≡ false → v.dealt ≡ s.nic.view.dealt
    → CardGains e s.nic.view v → Tallies e s (by_card s v)
tallies-unstrayed e s v nothing not_stray same gains = tallies-card e s v nothing (omega (arith, ap strays_of same, ap one not_stray)) gains

-- ---- taking

none-weigh : (f : Holding → ℕ) (held : List Holding) → length held ≡ 0 → weight f held ≡ 0
none-weigh f [] none = refl
none-weigh f (x ∷ held) none = absurd (omega (arith, none))

-- these are the holders of a buffer that had none
pub from-none : (s : AllSides) → AreSound s → (h : Holdings) → AreHoldersOf h s → (b : ℕ) → pool_of s b ≡ 0 → (news : List Holding)
    → Moves (h b) [] news news
from-none s sound h same b none news f = omega (arith, none-weigh f (h b) (length-held s sound h same b ∙ none))

pub no-length : (s : AllSides) → AreSound s → (h : Holdings) → AreHoldersOf h s → (b : ℕ) → pool_of s b ≡ 0 → eqb (length (h b)) 0 ≡ true
no-length s sound h same b none = eq-eqb (length (h b)) 0 (length-held s sound h same b ∙ none)

pub took-logs : (s : AllSides) → AreSound s → (buffer : ℕ) → buffer < pool_buffers s.nic.view.setting.layout → pool_of s buffer ≡ 0
    → let new = apply (card (takes buffer)) s in Logs (event.Take buffer (pool_of new buffer)) s new
took-logs s sound buffer pool none =
    let new = apply (card (takes buffer)) s in
    let e = event.Take buffer (pool_of new buffer) in
    let layout = s.nic.view.setting.layout in
    let of_pool : buffer < run_pool_buffers (setting_of_sides s).areas = omega (arith, pool, pool_buffers-same layout) in
    let becomes : Becomes e buffer [] (holding.Own ∷ []) s = λ h same. (
      lt-ltb buffer (total_buffers (setting_of_sides s)) (omega (arith, of_pool)),
      (
        holding.Own ∷ [],
        rw (lt-ltb buffer (run_pool_buffers (setting_of_sides s).areas) of_pool, no-length s sound h same buffer none) refl,
        from-none s sound h same buffer none (holding.Own ∷ []),
      ),
    ) in
    logs-by e s new refl (follows-by e buffer [] (holding.Own ∷ []) s new refl (NoneReturns-card s (took s.nic.view buffer) sound.returns)
    (step-shifts (card (takes buffer)) s tt buffer tt (refl, tt)) (λ held p u. pool-said held (pool_of new buffer) p) becomes)
    (tallies-unstrayed e s (took s.nic.view buffer) (λ n. assumption) refl refl
    (record { takes = refl; sends = sym (append-nil _); deals = sym (append-nil _) }))

-- ---- placing

apart-case : (o l p m : ℕ) → (if not (leb (o + l) p || leb (p + m) o) then 1 else 0) ≤ (if ltb o (p + m) then 1 else 0)
apart-case o l p m =
    ⊎_elim
    (λ less. rw (lt-ltb o (p + m) less) (if-le (not (leb (o + l) p || leb (p + m) o)) 1))
    (λ behind. rw (le-leb (p + m) o behind, or_right (leb (o + l) p) true refl) (omega arith))
    (cases_lt o (p + m))

-- what isn't apart ends behind the begin
not-apart : (o l : ℕ) (x : Holding) → one_if (λ y. not (is_apart o l y)) x ≤ one_if (ends o) x
not-apart o l holding.Own = omega arith
not-apart o l (holding.Piece p m) = apart-case o l p m
not-apart o l (holding.Sent a p m) = apart-case o l p m
not-apart o l (holding.Held a p m) = apart-case o l p m
not-apart o l (holding.Spare a) = omega arith
not-apart o l (holding.Loan a p m) = apart-case o l p m
not-apart o l (holding.Owed a) = omega arith

module _ (s : AllSides) (sound : AreSound s) (it : Filling) (out : HasOwn s.nic.view it) (h : Holdings) (same : AreHoldersOf h s) where
  -- the card is among the holders of a buffer that it fills
  own-there : list_any (is_same holding.Own) (h it.buffer) ≡ true
  own-there = was-there it.buffer holding.Own [] s (apply (card (shuts it false)) s) (step-shifts (card (shuts it false)) s out it.buffer (refl, tt) tt) refl refl h same

  own-some : is_buffer (setting_of_sides s) it.buffer ≡ true
  own-some = buffer-there s sound h same it.buffer (held-some s sound h same it.buffer holding.Own own-there)

  -- and the next bytes there are nobody's
  all-apart : (l : ℕ) → list_all (is_apart it.start l) (h it.buffer) ≡ true
  all-apart l =
      let behind : count_by (ends_behind it.start) (places_of it.buffer s.nic s.apps) ≡ 0 =
      All-contains (λ o. o.buffer ≡ it.buffer → count_by (ends_behind o.start) (places_of it.buffer s.nic s.apps) ≡ 0) s.nic.view.owns it
      (sound.places it.buffer).behind out refl in
      all-pass (is_apart it.start l) (h it.buffer) (omega (
        arith,
        weight-le (one_if (λ y. not (is_apart it.start l y))) (one_if (ends it.start)) (not-apart it.start l) (h it.buffer),
        same it.buffer (one_if (ends it.start)),
        ends-weight s it.buffer it.start,
        behind,
      ))

-- a holder that ends and begins is no change
kept-apart : (buffer : ℕ) (x : Holding) (news : List Holding) (old new : AllSides) → Shifts buffer (x ∷ []) (x ∷ news) old new
    → Shifts buffer [] news old new
kept-apart buffer x news old new both b f =
    omega (arith, both b f, here-more b buffer (f x) 0, here-more b buffer (f x) (weight f news))

pub placed-logs : (s : AllSides) → AreSound s → (it : Filling) (bytes : List ℕ) → HasOwn s.nic.view it → 0 < length bytes
    → it.start + length bytes ≤ it.size
    → let new = apply (card (places it bytes)) s in Logs (event.Place it.buffer it.start (length bytes) (pool_of new it.buffer)) s new
placed-logs s sound it bytes out some within =
    let l = length bytes in
    let new = apply (card (places it bytes)) s in
    let e = event.Place it.buffer it.start l (pool_of new it.buffer) in
    let x = holding.Piece it.start l in
    let P : Filling → Type 0 = λ o. FitsBuffer o × (o.size ≡ size_of s.nic.view.setting.layout o.buffer) in
    let fits : P it = All-contains P s.nic.view.owns it sound.fillings.card out in
    let inside : it.start + l ≤ size_of s.nic.view.setting.layout it.buffer = omega (arith, within, fits.1) in
    let aligned : eqb (it.start % 64) 0 ≡ true = eq-eqb (it.start % 64) 0 fits.0.aligned in
    let becomes : Becomes e it.buffer [] (x ∷ []) s = λ h same. (
      within-there s sound it.buffer it.start l (own-some s sound it out h same) inside,
      (
        h it.buffer ++ x ∷ [],
        rw (own-there s sound it out h same, lt-ltb 0 l some, aligned, all-apart s sound it out h same l) refl,
        λ f. omega (arith, weight-append f (h it.buffer) (x ∷ [])),
      ),
    ) in
    logs-by e s new refl (follows-by e it.buffer [] (x ∷ []) s new refl (NoneReturns-card s (placed s.nic.view it bytes) sound.returns)
    (kept-apart it.buffer holding.Own (x ∷ []) s new (step-shifts (card (places it bytes)) s out it.buffer (refl, tt) (refl, (refl, tt)))) (λ held p u. pool-said held (pool_of new it.buffer) p) becomes)
    (tallies-unstrayed e s (placed s.nic.view it bytes) (λ n. assumption) refl refl
    (card-stays e s.nic.view (placed s.nic.view it bytes) (assumption) refl refl refl))

-- ---- sending and shutting

-- a note more that was sent with a piece, and one in which its bytes travel
sends-more : (notes : List SentNote) (n : SentNote) → n.note.split ≡ true → flat_map sent_as (notes ++ n ∷ []) ≡ flat_map sent_as notes ++ (n.app, n.note.place) ∷ []
sends-more notes n split = sym (flat_map_more sent_as [] notes n)
    ∙ ap (λ c. flat_map sent_as notes ++ (if c then (n.app, n.note.place) ∷ [] else [])) split

pub sends-none : (notes : List SentNote) (n : SentNote) → n.note.split ≡ false → flat_map sent_as (notes ++ n ∷ []) ≡ flat_map sent_as notes
sends-none notes n split = sym (flat_map_more sent_as [] notes n)
    ∙ (ap (λ c. flat_map sent_as notes ++ (if c then (n.app, n.note.place) ∷ [] else [])) split ∙ append-nil (flat_map sent_as notes))

pub sent-logs : (s : AllSides) → AreSound s → (a : ℕ) (note : Note) → CardCan (sends a note) s
    → Logs (event.Sent a note.place.buffer note.place.offset note.place.len) s (apply (card (sends a note)) s)
sent-logs s sound a note can =
    let p = note.place in
    let e = event.Sent a p.buffer p.offset p.len in
    one-ends e p.buffer (holding.Piece p.offset p.len) (holding.Sent a p.offset p.len ∷ []) s (apply (card (sends a note)) s) sound
    (NoneReturns-card s (sent s.nic.view a note) sound.returns) refl refl (step-shifts (card (sends a note)) s can p.buffer (refl, tt) (refl, tt)) refl
    (λ there none. rw (app-there s sound a _ can.1, within-by s sound p.buffer p.offset p.len there none) refl) (λ held. refl) (λ held p u. refl)
    (tallies-unstrayed e s (sent s.nic.view a note) (λ n. assumption) refl refl
    (record { takes = sym (append-nil _); sends = sends-more s.nic.view.sent _ can.2; deals = sym (append-nil _) }))

pub shut-logs : (s : AllSides) → AreSound s → (it : Filling) (last : Bool) → HasOwn s.nic.view it
    → let new = apply (card (shuts it last)) s in Logs (event.Shut it.buffer (pool_of new it.buffer)) s new
shut-logs s sound it last out =
    let new = apply (card (shuts it last)) s in
    let e = event.Shut it.buffer (pool_of new it.buffer) in
    one-ends e it.buffer holding.Own [] s new sound (NoneReturns-card s (shut s.nic.view it last) sound.returns) refl refl
    (step-shifts (card (shuts it last)) s out it.buffer (refl, tt) tt) refl (λ there none. there) (λ held. refl)
    (λ held p u. pool-said held (pool_of new it.buffer) p)
    (tallies-unstrayed e s (shut s.nic.view it last) (λ n. assumption) refl refl
    (card-stays e s.nic.view (shut s.nic.view it last) (assumption) refl refl refl))

-- ---- entries

pub honoured-logs : (s : AllSides) → AreSound s → (a : ℕ) (entry : Rqe) (p : Place) (last : Bool) → CardCan (honours a entry p last) s
    → let new = apply (card (honours a entry p last)) s in Logs (event.Honour a p.buffer (pool_of new p.buffer) (user_of new a p.buffer)) s new
honoured-logs s sound a entry p last can =
    let v = gave_up (honoured s.nic.view a entry p.buffer) p.buffer last in
    let new = apply (card (honours a entry p last)) s in
    let e = event.Honour a p.buffer (pool_of new p.buffer) (user_of new a p.buffer) in
    one-ends e p.buffer (holding.Owed a) [] s new sound (NoneReturns-card s v sound.returns) refl refl
    (step-shifts (card (honours a entry p last)) s can p.buffer (refl, tt) tt) refl
    (λ there none. rw (app-there s sound a _ can.1, there) refl) (λ held. refl)
    (λ held q u. both-said held (pool_of new p.buffer) a (user_of new a p.buffer) q (u a))
    (tallies-card e s v (λ n. assumption) (count-push (λ (d : Dealt). was_stray d.fate) s.nic.view.dealt _)
    (record { takes = sym (append-nil _); sends = sym (append-nil _); deals = map-append dealt_as s.nic.view.dealt _ }))

stray-is : (s : Setting) (h : Holdings) (a : ℕ) → is_app s a ≡ true → after s h (event.Stray a) ≡ Some h
unfolding after
stray-is s h a there = rw there refl

pub strayed-logs : (s : AllSides) → AreSound s → (a : ℕ) (entry : Rqe) → IsApp s.apps a (side_in s.apps a)
    → Logs (event.Stray a) s (apply (card (strays a entry)) s)
strayed-logs s sound a entry at =
    let v = passed_over s.nic.view a entry in
    logs-by (event.Stray a) s (by_card s v) refl
    (λ h same. (
      h,
      stray-is (setting_of_sides s) h a (app-there s sound a _ at),
      λ b f. same b f
          ∙ sym (step-same (card (strays a entry)) s tt (λ b f. refl) b f),
    ))
    (tallies-card (event.Stray a) s v (λ n. assumption) (count-push (λ (d : Dealt). was_stray d.fate) s.nic.view.dealt _)
    (record { takes = sym (append-nil _); sends = sym (append-nil _); deals = map-append dealt_as s.nic.view.dealt _ }))

-- ---- no event

-- what neither ends nor begins a holding
pub card-keeps : (step : CardStep) (s : AllSides) → CardCan step s → let v = card_view step s.nic.view in
    card_ends step ≡ [] → card_begins step s.nic.view ≡ [] → v.setting ≡ s.nic.view.setting → v.used ≡ s.nic.view.used
    → flat_map sent_as v.sent ≡ flat_map sent_as s.nic.view.sent → v.dealt ≡ s.nic.view.dealt → KeepsLog s (apply (card step) s)
card-keeps step s can ends begins setting used sents deals =
    logged-same s (apply (card step) s) (ap (λ (x : Shared). setting_of_layout x.layout) setting)
    (step-same (card step) s can (λ b f. rw (ends, begins) refl))
    (keeps-card s (card_view step s.nic.view) used sents deals)
