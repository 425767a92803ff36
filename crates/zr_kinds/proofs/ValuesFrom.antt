-- The values from a position on: in two parts, how many they are, and that they stay where the same stands.
use Rattle.std.proofs.Common.{◌≡◌, ℕ, zero, suc, ◌+◌, ◌<◌, ◌≤◌, ◌∷◌, ◌++◌, length, Option, Some, None, IsSome, refl, ap, ◌∙◌, ⊎_elim, arith}
use Rattle.zr_kinds.{specs.CopyingReceiver.{first_of, values_from}, proofs.InOrder.{cases_Option}}

pub some_of : {A : Type 0} (found : Option A) → IsSome found → (value : A) × (found ≡ Some value)
some_of None is = absurd (cc)
some_of (Some value) is = (value, refl)

module _ {A : Type 0} (at : ℕ → Option A) where
  -- one stands at each of the k positions from p on
  pub record AreThere (k p : ℕ) : Type 0 where
    pub there : (q : ℕ) → p ≤ q → q < p + k → IsSome (at q)

  AreThere-next : (k p : ℕ) → AreThere (suc k) p → AreThere k (suc p)
  AreThere-next k p are = record { there = λ q from until. are.there q (omega arith) (omega arith) }

  first_there : (k p : ℕ) → AreThere (suc k) p → (value : A) × (at p ≡ Some value)
  first_there k p are = some_of (at p) (are.there p (omega arith) (omega arith))

  pub values_from-split : (k m p : ℕ) → AreThere k p → values_from at (k + m) p ≡ values_from at k p ++ values_from at m (p + k)
  values_from-split zero m p are =
      let none_more : 0 + m ≡ m = omega arith in
      let here : p ≡ p + 0 = omega arith in
      ap (λ n. values_from at n p) none_more ∙ ap (values_from at m) here
  values_from-split (suc k) m p are =
      let (value, here) = first_there k p are in
      let steps : suc k + m ≡ suc (k + m) = omega arith in
      let behind : suc p + k ≡ p + suc k = omega arith in
      rw (steps, here)
      (ap (λ others. value ∷ others)
      (values_from-split k m (suc p) (AreThere-next k p are) ∙ ap (λ n. values_from at k (suc p) ++ values_from at m n) behind))

  pub length-values_from : (k p : ℕ) → AreThere k p → length (values_from at k p) ≡ k
  length-values_from zero p are = refl
  length-values_from (suc k) p are =
      let (value, here) = first_there k p are in
      rw here (ap suc (length-values_from k (suc p) (AreThere-next k p are)))

-- the same stands at each of the k positions from p on
pub record AreSame {A : Type 0} (at later : ℕ → Option A) (k p : ℕ) : Type 0 where
  pub same : (q : ℕ) → p ≤ q → q < p + k → later q ≡ at q

pub values_from-same : {A : Type 0} (at later : ℕ → Option A) (k p : ℕ) → AreSame at later k p → values_from later k p ≡ values_from at k p
values_from-same at later zero p are = refl
values_from-same at later (suc k) p are =
    let here : later p ≡ at p = are.same p (omega arith) (omega arith) in
    let others = values_from-same at later k (suc p) (record { same = λ q from until. are.same q (omega arith) (omega arith) }) in
    ⊎_elim
    (λ (none : at p ≡ None). let too : later p ≡ None = here ∙ none in rw (none, too) refl)
    (λ (value, some). let too : later p ≡ Some value = here ∙ some in rw (some, too) (ap (λ values. value ∷ values) others))
    (cases_Option (at p))

pub first_of-some : {A : Type 0} (value later : Option A) → IsSome value → first_of value later ≡ value
first_of-some None later is = absurd (cc)
first_of-some (Some value) later is = refl
