-- What the weights of holders say of them.
use Rattle.std.{proofs.Common.{◌≡◌, ℕ, ◌+◌, ◌<◌, ◌≤◌, List, [], ◌∷◌, Bool, true, false, not, refl, arith, ⊎_elim}, specs.List.{list_any, list_all}}
use Rattle.std.proofs.lemmas.Bool.{cases_Bool}
use Rattle.zr_kinds.{specs.{declared.holding.Holding.{Holding}, Holders.{is_same, weight}}, proofs.Weighing.{one_if, some_becomes}}

-- where those that pass weigh something, one of them passes
pub any-some : (p : Holding → Bool) (held : List Holding) → 0 < weight (one_if p) held → list_any p held ≡ true
any-some p [] some = absurd (omega arith)
any-some p (h ∷ held) some = ⊎_elim
    (λ (yes : p h ≡ true). rw yes refl)
    (λ (no : p h ≡ false). let later : 0 < 0 + weight (one_if p) held = rw no at some in rw no (any-some p held (omega (arith, later))))
    (cases_Bool (p h))

-- where those that don't pass weigh nothing, all pass
pub all-pass : (p : Holding → Bool) (held : List Holding) → weight (one_if (λ h. not (p h))) held ≡ 0 → list_all p held ≡ true
all-pass p [] none = refl
all-pass p (h ∷ held) none = ⊎_elim
    (λ (yes : p h ≡ true). let later : 0 + weight (one_if (λ h. not (p h))) held ≡ 0 = rw yes at none in
    rw yes (all-pass p held (omega (arith, later))))
    (λ (no : p h ≡ false). let one : 1 + weight (one_if (λ h. not (p h))) held ≡ 0 = rw no at none in absurd (omega (arith, one)))
    (cases_Bool (p h))

pub weight-le : (f g : Holding → ℕ) → ((h : Holding) → f h ≤ g h) → (held : List Holding) → weight f held ≤ weight g held
weight-le f g each [] = omega arith
weight-le f g each (h ∷ held) = omega (arith, each h, weight-le f g each held)

-- a holder that is there weighs no more than all
pub weight-among : (old : Holding) (held : List Holding) → list_any (is_same old) held ≡ true → (f : Holding → ℕ) → f old ≤ weight f held
weight-among old held some f = let found = some_becomes old [] held some in omega (arith, found.2 f)
