-- The items of a flow are of the first of its marks, and in the end of all of them.
use Rattle.std.proofs.Common.{◌≡◌, ℕ, List, ◌++◌, sym, ap, subst, ◌∙◌}
use Rattle.board_face.specs.declared.views.app.{TakenNote.{TakenNote}, AppView.{AppView}}
use Rattle.flow_queues.specs.{declared.queues.FlowQueue.{FlowQueue}, Marks.{Mark, FramesStandTogether, marks_of}, Core.{Each, placed_of}}
use Rattle.flow_queues.{proofs.Fronts.{front-of-flow, all-of-flow, pick, no-marks}, specs.Shelves.{FlowEnds}}
use Rattle.zr_kinds.specs.CopyingReceiver.{next_missing}
use Rattle.zc_poll.{specs.{Standing.{Desk, IsWhole}, Items.{GivenItem, HasGiven, marks_given}}, proofs.Marking.{IsGivenOf, each-two}}

pub items-front : (flows : List FlowQueue) (taken : List TakenNote) (items : List GivenItem) → Each (FlowEnds taken) flows → HasGiven items flows taken
    → FramesStandTogether taken → (flow : ℕ) → (rest : List Mark) × (marks_of flow taken ≡ marks_given flow items ++ rest)
items-front flows taken items found given whole flow =
    pick flow flows (λ f. FlowEnds taken f × IsGivenOf items taken f) ((rest : List Mark) × (marks_of flow taken ≡ marks_given flow items ++ rest))
    (each-two (FlowEnds taken) (IsGivenOf items taken) flows found given.flows)
    (λ none. (marks_of flow taken, ap (λ ms. ms ++ marks_of flow taken) (sym (given.others flow none))))
    (λ f is both.
    let (rest, parts) = front-of-flow f taken f.bytes both.0.begun both.0.below whole in
    subst (λ n. (rest : List Mark) × (marks_of n taken ≡ marks_given n items ++ rest)) is (rest, parts ∙ ap (λ ms. ms ++ rest) (sym both.1)))

pub items-whole : (st : Desk) (v : AppView) (items : List GivenItem) → Each (FlowEnds v.taken) st.flows → IsWhole st v → HasGiven items st.flows v.taken
    → FramesStandTogether v.taken → (flow : ℕ) → marks_of flow v.taken ≡ marks_given flow items
items-whole st v items found all given whole flow =
    pick flow st.flows (λ f. (FlowEnds v.taken f × IsGivenOf items v.taken f) × (f.bytes ≡ next_missing (placed_of f v.taken)))
    (marks_of flow v.taken ≡ marks_given flow items)
    (each-two (λ f. FlowEnds v.taken f × IsGivenOf items v.taken f) (λ f. f.bytes ≡ next_missing (placed_of f v.taken)) st.flows
    (each-two (FlowEnds v.taken) (IsGivenOf items v.taken) st.flows found given.flows) all.flows)
    (λ none. no-marks flow v.taken (all.known flow none) ∙ sym (given.others flow none))
    (λ f is both. subst (λ n. marks_of n v.taken ≡ marks_given n items) is (all-of-flow f v.taken both.0.0.begun both.1 whole ∙ sym both.0.1))
