-- What the applications begin with, the last first.
use Rattle.std.{proofs.Common.{◌≡◌, ℕ, List, [], ◌∷◌, ◌++◌, length, Some, refl, sym, ap, ◌∙◌, subst}, specs.List.{slice_get}}
use Rattle.card_feed.specs.declared.plan.Plan.{Plan}
use Rattle.replay_threads.{specs.{declared.seated.Start.{Start}, Seated.{IsStart}}, proofs.SideBySide.{get-front}}

-- those of the first applications
abbrev pub AreStartsSoFar : Plan → List Start → Type 0
AreStartsSoFar plan starts = (a : ℕ) (s : Start) → slice_get starts a ≡ Some s → IsStart plan a s

get-last : {A : Type 0} (xs : List A) (x : A) → slice_get (xs ++ x ∷ []) (length xs) ≡ Some x
get-last [] x = refl
get-last (y ∷ xs) x = get-last xs x

module _ (plan : Plan) (all front : List Start) (last : Start) (split : all ≡ front ++ last ∷ []) (starts : AreStartsSoFar plan all) where
  pub first-starts : AreStartsSoFar plan front
  first-starts a s is = starts a s (ap (λ l. slice_get l a) split ∙ get-front front (last ∷ []) a s is)

  pub last-start : (n : ℕ) → n ≡ length front → IsStart plan n last
  last-start n is = subst (λ k. IsStart plan k last) (sym is)
      (starts (length front) last (ap (λ l. slice_get l (length front)) split ∙ get-last front last))
