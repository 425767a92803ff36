-- What the shelf has stands at the first of the marks of the frames.
use Rattle.std.{proofs.Common.{◌≡◌, ℕ, ◌≤◌, Bool, true, false, List, [], Option, refl, sym, subst}, specs.Prelude.{MatchBool}}
use Rattle.zr_io.{specs.Moved.{Gained}, proofs.Moved.{Gained-weaker}}
use Rattle.zr_kinds.specs.CopyingReceiver.{next_missing, values_from}
use Rattle.zr_kinds.specs.declared.behaviour.Stopped.TheVariants as stop
use Rattle.board_face.specs.declared.views.app.AppView.{AppView}
use Rattle.flow_queues.specs.{declared.queues.FlowQueue.{FlowQueue}, Marks.{marks_of, FramesStandTogether}, Core.{Each, many, own_notes, placed_of, AreReadAt}}
use Rattle.flow_queues.specs.{Shelves.{FlowEnds, kept_loans, IsShelved, AreShelved, ReadsFront, IsFrontShelved, AreFronts}, Streams.{IsFront, HasFronts, HasAll}}
use Rattle.flow_queues.proofs.{Fronts.{front-of-flow, all-of-flow, pick, no-marks}, Done.{gained-nothing}}
use Rattle.app_worker.{specs.State.{State, Working, Bare, AppStands, app_steps, furthest}, proofs.Measure.{working-within, bare-within}}
use Rattle.app_worker.proofs.{EachBoth.{each-both}, NoteTaken.{all-end}}

pub fronts-of : (first kept : ℕ → Option (List ℕ)) (flows : List FlowQueue) (v : AppView) → Each (FlowEnds v.taken) flows → FramesStandTogether v.taken
    → AreShelved first kept flows v → HasFronts first kept v
fronts-of first kept flows v ends whole shelved flow =
    pick flow flows (λ f. FlowEnds v.taken f × IsShelved first kept v.taken v.reads f)
    (Gained (first flow) (kept flow) (IsFront v.taken v.reads (marks_of flow v.taken)))
    (each-both (FlowEnds v.taken) (IsShelved first kept v.taken v.reads) flows ends shelved.flows)
    (λ none. gained-nothing (first flow) (kept flow) (IsFront v.taken v.reads (marks_of flow v.taken))
    (record { read = []; rest = marks_of flow v.taken; parts = refl; are = tt }) (shelved.others flow none))
    (λ f is both.
    let (rest, parts) = front-of-flow f v.taken f.bytes both.0.begun both.0.below whole in
    subst (λ n. Gained (first n) (kept n) (IsFront v.taken v.reads (marks_of n v.taken))) is
    (Gained-weaker (first f.number) (kept f.number) (λ bytes. AreReadAt v.taken v.reads (values_from (placed_of f v.taken).at f.bytes 0) bytes)
    (IsFront v.taken v.reads (marks_of f.number v.taken))
    (λ bytes are. record { read = values_from (placed_of f v.taken).at f.bytes 0; rest = rest; parts = parts; are = are }) both.1.gained))

pub fronts-failed : (first kept : ℕ → Option (List ℕ)) (flows : List FlowQueue) (v : AppView) → Each (FlowEnds v.taken) flows → FramesStandTogether v.taken
    → AreFronts first kept flows v → HasFronts first kept v
fronts-failed first kept flows v ends whole shelved flow =
    pick flow flows (λ f. FlowEnds v.taken f × IsFrontShelved first kept v.taken v.reads (kept_loans v) f)
    (Gained (first flow) (kept flow) (IsFront v.taken v.reads (marks_of flow v.taken)))
    (each-both (FlowEnds v.taken) (IsFrontShelved first kept v.taken v.reads (kept_loans v)) flows ends shelved.flows)
    (λ none. gained-nothing (first flow) (kept flow) (IsFront v.taken v.reads (marks_of flow v.taken))
    (record { read = []; rest = marks_of flow v.taken; parts = refl; are = tt }) (shelved.others flow none))
    (λ f is both.
    subst (λ n. Gained (first n) (kept n) (IsFront v.taken v.reads (marks_of n v.taken))) is
    (Gained-weaker (first f.number) (kept f.number) (ReadsFront v.taken v.reads (kept_loans v) f) (IsFront v.taken v.reads (marks_of f.number v.taken))
    (λ bytes front.
    let (rest, parts) = front-of-flow f v.taken front.count both.0.begun front.below whole in
    record { read = values_from (placed_of f v.taken).at front.count 0; rest = rest; parts = parts; are = front.are }) both.1.gained))

pub all-of : (first kept : ℕ → Option (List ℕ)) (flows : List FlowQueue) (v : AppView) → Each (FlowEnds v.taken) flows
    → Each (λ f. f.bytes ≡ next_missing (placed_of f v.taken)) flows → ((number : ℕ) → many number flows ≡ 0 → own_notes number v.taken ≡ [])
    → FramesStandTogether v.taken
    → AreShelved first kept flows v → HasAll first kept v
all-of first kept flows v ends all known whole shelved flow =
    pick flow flows (λ f. (FlowEnds v.taken f × (f.bytes ≡ next_missing (placed_of f v.taken))) × IsShelved first kept v.taken v.reads f)
    (Gained (first flow) (kept flow) (AreReadAt v.taken v.reads (marks_of flow v.taken)))
    (each-both (λ f. FlowEnds v.taken f × (f.bytes ≡ next_missing (placed_of f v.taken))) (IsShelved first kept v.taken v.reads) flows
    (each-both (FlowEnds v.taken) (λ f. f.bytes ≡ next_missing (placed_of f v.taken)) flows ends all) shelved.flows)
    (λ none. gained-nothing (first flow) (kept flow) (AreReadAt v.taken v.reads (marks_of flow v.taken)) (rw (no-marks flow v.taken (known flow none)) tt)
    (shelved.others flow none))
    (λ f is both.
    subst (λ n. Gained (first n) (kept n) (AreReadAt v.taken v.reads (marks_of n v.taken))) is
    (Gained-weaker (first f.number) (kept f.number) (λ bytes. AreReadAt v.taken v.reads (values_from (placed_of f v.taken).at f.bytes 0) bytes)
    (AreReadAt v.taken v.reads (marks_of f.number v.taken))
    (λ bytes are. subst (λ ms. AreReadAt v.taken v.reads ms bytes) (sym (all-of-flow f v.taken both.0.0.begun both.0.1 whole)) are) both.1.gained))

-- ---- an application that stands

pub by-mode : (b : Bool) (P Q R : Type 0) → MatchBool b P Q → (b ≡ true → P → R) → (b ≡ false → Q → R) → R
by-mode true P Q R is first second = first refl is
by-mode false P Q R is first second = second refl is

pub stands-within : (st : State) (v : AppView) → AppStands st v → app_steps st v ≤ furthest st.how.stray v
stands-within st v stands = by-mode st.bare (Bare st v) (Working st v) (app_steps st v ≤ furthest st.how.stray v) stands.mode
    (λ _ bare. bare-within st v bare stands.common)
    (λ _ works. working-within st v works stands.common)

pub stands-fronts : (first kept : ℕ → Option (List ℕ)) (st : State) (v : AppView) → AppStands st v → FramesStandTogether v.taken
    → AreShelved first kept st.flows v → HasFronts first kept v
stands-fronts first kept st v stands whole shelved = by-mode st.bare (Bare st v) (Working st v) (HasFronts first kept v) stands.mode
    (λ _ bare. fronts-of first kept st.flows v bare.flows whole shelved)
    (λ _ works. fronts-of first kept st.flows v (all-end st v works) whole shelved)

pub stands-failed : (first kept : ℕ → Option (List ℕ)) (st : State) (v : AppView) → AppStands st v → FramesStandTogether v.taken
    → AreFronts first kept st.flows v → HasFronts first kept v
stands-failed first kept st v stands whole shelved = by-mode st.bare (Bare st v) (Working st v) (HasFronts first kept v) stands.mode
    (λ _ bare. fronts-failed first kept st.flows v bare.flows whole shelved)
    (λ _ works. fronts-failed first kept st.flows v (all-end st v works) whole shelved)

pub stands-all : (first kept : ℕ → Option (List ℕ)) (st : State) (v : AppView) → AppStands st v → st.bare ≡ true → st.stopped ≡ stop.No
    → FramesStandTogether v.taken → AreShelved first kept st.flows v → HasAll first kept v
stands-all first kept st v stands is going whole shelved = by-mode st.bare (Bare st v) (Working st v) (HasAll first kept v) stands.mode
    (λ _ bare. all-of first kept st.flows v bare.flows (bare.whole going).1 (bare.known going) whole shelved)
    (λ not _. absurd (cc))
