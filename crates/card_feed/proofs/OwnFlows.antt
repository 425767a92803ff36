-- The notes that show an application's frames are of its own flows.
use Rattle.std.proofs.Common.{◌≡◌, ◌≢◌, ℕ, suc, ◌<◌, ◌≤◌, List, [], ◌∷◌, length, map, filter, Bool, true, false, ◌==◌, Some, refl, sym, ap, subst, ◌∙◌, ⊎_elim, All}
use Rattle.std.{specs.List.{slice_get}, proofs.lemmas.Bool.{cases_Bool, cases_lt, eqb-true, ne_eqb}}
use Rattle.std.proofs.lemmas.List.{Elements.{All-nil, All-cons, All-append, All-head, All-tail}, Quantifiers.{position-Some}}
use Rattle.zr_kinds.specs.CopyingReceiver.{nothing_placed, next_missing, front_of}
use Rattle.board_face.specs.{Relay.{as_taken}, declared.views.nic.SentNote.{SentNote}}
use Rattle.flow_table.specs.{Steered.{SteeredTcp}, Flows.{Flow, flows_with, flows_after, number_of_flow}}
use Rattle.flow_table.proofs.FlowLaws.{HaveApps, flows_with-keeps, flows_with-grow, flows_with-app, flows_with-apps}
use Rattle.app_worker.specs.Marks.{Mark, NumberedNote, numbered_notes, notes_of_flow, frames_of_notes, received_frames, base_of}
use Rattle.page_pool.specs.Frames.{Offered, ShowsFrame, ShowFrames}
use Rattle.card_feed.{specs.{Offered.{offered_after}, Sent.{IsOfOwnFlow, OwnNotesMarkNoOther}}, proofs.{NotesShown.{AreOf, rest-of}, OfFlow.{AreSteered, there}}}

-- ---- a frame's flow is one of its application

abbrev HasFlow : List Flow → Offered → Type 0
HasFlow flows o = (flow : Flow) × (slice_get flows o.flow ≡ Some flow) × (flow.app ≡ o.app)

abbrev pub HaveFlows : List Flow → List Offered → Type 0
HaveFlows flows [] = Unit {0}
HaveFlows flows (o ∷ os) = HasFlow flows o × HaveFlows flows os

remains : (flows : List Flow) (steered : List SteeredTcp) (i : ℕ) (own : Flow) → slice_get flows i ≡ Some own
    → (last : Flow) × (slice_get (flows_after flows steered) i ≡ Some last) × (last.app ≡ own.app)
remains flows [] i own is = (own, is, refl)
remains flows (s ∷ ss) i own is =
    let (later, later_is, same) = flows_with-keeps flows s i own is in
    let (last, last_is, app) = remains (flows_with flows s) ss i later later_is in
    (last, last_is, app ∙ same.app_is)

pub have-flows : (ports : List ℕ) (flows : List Flow) (steered : List SteeredTcp) → HaveApps ports flows → AreSteered ports steered
    → HaveFlows (flows_after flows steered) (offered_after flows steered)
have-flows ports flows [] have are = tt
have-flows ports flows (s ∷ ss) have are =
    let after : List Flow = flows_with flows s in
    let mine : ℕ = number_of_flow flows s in
    let (own, own_is) = there after mine (flows_with-grow flows s).1 in
    let (last, last_is, app) = remains after ss mine own own_is in (
      (last, last_is, app ∙ flows_with-app ports flows s own are.0 have own_is),
      have-flows ports after ss (flows_with-apps ports flows s are.0 have) are.1,
    )

pub HaveFlows-filter : (flows : List Flow) (p : Offered → Bool) (os : List Offered) → HaveFlows flows os → HaveFlows flows (filter p os)
HaveFlows-filter flows p [] have = tt
HaveFlows-filter flows p (o ∷ os) have = ⊎_elim
    (λ (is : p o ≡ true). rw is (have.0, HaveFlows-filter flows p os have.1))
    (λ (not_so : p o ≡ false). rw not_so (HaveFlows-filter flows p os have.1))
    (cases_Bool (p o))

-- ---- those of one application

abbrev HasOwn : List Flow → ℕ → Offered → Type 0
HasOwn flows a o = (flow : Flow) × (slice_get flows o.flow ≡ Some flow) × (flow.app ≡ a)

abbrev pub HaveOwn : List Flow → ℕ → List Offered → Type 0
HaveOwn flows a [] = Unit {0}
HaveOwn flows a (o ∷ os) = HasOwn flows a o × HaveOwn flows a os

pub own-filter : (flows : List Flow) (a : ℕ) (os : List Offered) → HaveFlows flows os → HaveOwn flows a (filter (λ o. o.app == a) os)
own-filter flows a [] have = tt
own-filter flows a (o ∷ os) have = ⊎_elim
    (λ (is : (o.app == a) ≡ true).
    let (flow, known, app) = have.0 in rw is ((flow, known, app ∙ eqb-true o.app a is), own-filter flows a os have.1))
    (λ (other : (o.app == a) ≡ false). rw other (own-filter flows a os have.1))
    (cases_Bool (o.app == a))

frame-own : (flows : List Flow) (a : ℕ) (o : Offered) (mine : List SentNote) → HasOwn flows a o → AreOf o mine → All (IsOfOwnFlow flows a) mine
frame-own flows a o [] has of_frame = All-nil (IsOfOwnFlow flows a)
frame-own flows a o (s ∷ ss) has of_frame =
    let (flow, known, app) = has in
    All-cons (IsOfOwnFlow flows a) s ss
    (record { flow = flow; known = subst (λ n. slice_get flows n ≡ Some flow) (sym of_frame.0.flow) known; app = app })
    (frame-own flows a o ss has of_frame.1)

frame-of : (split : ℕ) (o : Offered) (mine : List SentNote) → ShowsFrame split o mine → AreOf o mine
frame-of split o mine shows = ⊎_elim
    (λ (long : split < length o.payload). rest-of o 0 mine (shows.long long))
    (λ (short : length o.payload ≤ split). let one = shows.short short in rw one.1 (one.2.of_frame, tt))
    (cases_lt split (length o.payload))

pub shown-own : (flows : List Flow) (a split : ℕ) (os : List Offered) (notes : List SentNote) → HaveOwn flows a os → ShowFrames split os notes
    → All (IsOfOwnFlow flows a) notes
shown-own flows a split [] notes have shows = rw shows (All-nil (IsOfOwnFlow flows a))
shown-own flows a split (o ∷ os) notes have shows = subst (All (IsOfOwnFlow flows a)) (sym shows.2)
    (All-append (IsOfOwnFlow flows a) shows.0 shows.1 (frame-own flows a o shows.0 have.0 (frame-of split o shows.0 shows.3))
    (shown-own flows a split os shows.1 have.1 shows.4))

-- ---- no mark of another flow

other-none : (flows : List Flow) (a number k : ℕ) (notes : List SentNote) → ((flow : Flow) → slice_get flows number ≡ Some flow → flow.app ≢ a)
    → All (IsOfOwnFlow flows a) notes → notes_of_flow number (numbered_notes k (map as_taken notes)) ≡ []
other-none flows a number k [] other own = refl
other-none flows a number k (s ∷ notes) other own =
    let mine = All-head (IsOfOwnFlow flows a) s notes own in
    let not_it = ne_eqb s.note.flow number (λ (same : s.note.flow ≡ number).
    other mine.flow (subst (λ n. slice_get flows n ≡ Some mine.flow) same mine.known) mine.app) in
    rw not_it (other-none flows a number (suc k) notes other (All-tail (IsOfOwnFlow flows a) s notes own))

no-front : front_of {A = Mark} nothing_placed ≡ []
unfolding front_of next_missing
no-front = refl

pub own-marks : OwnNotesMarkNoOther
own-marks flows a notes own number other =
    ap (λ (ns : List NumberedNote). front_of (received_frames (base_of ns) nothing_placed (frames_of_notes ns))) (other-none flows a number 0 notes other own)
    ∙ no-front

-- ---- applications

pub steered-within : (ports : List ℕ) (flows : List Flow) (steered : List SteeredTcp) → AreSteered ports steered
    → All (λ (o : Offered). o.app < length ports) (offered_after flows steered)
steered-within ports flows [] are = All-nil (λ (o : Offered). o.app < length ports)
steered-within ports flows (s ∷ ss) are =
    All-cons (λ (o : Offered). o.app < length ports) _ _ (position-Some (λ p. p == s.segment.dport) ports s.app 0 are.0).0
    (steered-within ports (flows_with flows s) ss are.1)
