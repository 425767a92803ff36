-- The first of all events are legal as far as they go.
use Rattle.std.{proofs.Common.{◌≡◌, ◌∙◌, ℕ, zero, suc, List, [], ◌∷◌, take, Some, refl, ap, arith}, specs.{Prelude.{option_and_then}, List.{AllByRecursion}}}
use Rattle.std.proofs.lemmas.Grind.{common_steps}
use Rattle.zr_kinds.specs.{declared.event.Event.{Event}, Setting.{Setting}, Holders.{Holdings, after, all_after}, LegalRun.{HasSmallNumbers}}
use Rattle.zr_kinds.proofs.Following.{some_from}
use Rattle.plain_board.specs.Logs.{FirstEventsLaw}

-- the holders that the first events lead to
pub front-reached : (s : Setting) (start h : Holdings) (events : List Event) (n : ℕ) → all_after s start events ≡ Some h
    → (now : Holdings) × (all_after s start (take n events) ≡ Some now)
front-reached s start h events zero reached = (start, refl)
front-reached s start h [] (suc n) reached = (start, refl)
front-reached s start h (e ∷ events) (suc n) reached =
    let step = some_from (after s start e) (λ k. all_after s k events) h reached in
    let rest = front-reached s step.0 h events n step.2 in
    (rest.0, ap (option_and_then (λ k. all_after s k (take n events))) step.1 ∙ rest.1)

pub front-small : (events : List Event) (n : ℕ) → AllByRecursion HasSmallNumbers events → AllByRecursion HasSmallNumbers (take n events)
front-small events zero small = tt
front-small [] (suc n) small = tt
front-small (e ∷ events) (suc n) small = (small.0, front-small events n small.1)

pub first-events : FirstEventsLaw
first-events room events e = grind (arith, common_steps)
