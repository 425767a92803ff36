-- Events that go on: one more behind those of a run.
use Rattle.std.{proofs.Common.{◌≡◌, ◌∙◌, ◌++◌, List, [], ◌∷◌, Option, Some, None, refl, ap}, specs.{Prelude.{option_and_then}, List.{AllByRecursion}}}
use Rattle.zr_kinds.specs.{declared.event.Event.{Event}, Setting.{Setting}, Holders.{Holdings, after, all_after}, LegalRun.{HasSmallNumbers}}

pub some_from : {A B : Type 0} (value : Option A) (f : A → Option B) (result : B) → option_and_then f value ≡ Some result
    → (a : A) × (value ≡ Some a) × (f a ≡ Some result)
some_from None f result is = cc
some_from (Some a) f result is = (a, refl, is)

pub all_after-more : (s : Setting) (start h now : Holdings) (events : List Event) (e : Event) → all_after s start events ≡ Some h
    → after s h e ≡ Some now → all_after s start (events ++ e ∷ []) ≡ Some now
all_after-more s start h now [] e reached follows =
    let same : start ≡ h = cc in
    ap (option_and_then (λ k. Some k)) (ap (λ k. after s k e) same ∙ follows)
all_after-more s start h now (f ∷ events) e reached follows =
    let step = some_from (after s start f) (λ k. all_after s k events) h reached in
    ap (option_and_then (λ k. all_after s k (events ++ e ∷ []))) step.1 ∙ all_after-more s step.0 h now events e step.2 follows

pub small-more : (events : List Event) (e : Event) → AllByRecursion HasSmallNumbers events → HasSmallNumbers e
    → AllByRecursion HasSmallNumbers (events ++ e ∷ [])
small-more [] e small own = (own, tt)
small-more (f ∷ events) e small own = (small.0, small-more events e small.1 own)
