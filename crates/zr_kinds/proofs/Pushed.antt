-- Values that are brought, with one more at the end, and where they come.
use Rattle.std.proofs.Common.{◌≡◌, ℕ, zero, suc, ◌+◌, ◌-◌, ◌^◌, ◌<◌, ◌≤◌, List, [], ◌∷◌, ◌++◌, length, refl, ap, sym, ◌∙◌, arith, ⊎_elim}
use Rattle.std.{specs.Prelude.{◌==◌, if◌then◌else◌, Some, None}, proofs.lemmas.Bool.{cases_lt, cond-false, le-ltb, lt-ltb, ne_eqb, Decides.{nat_tests}}}
use Rattle.zr_kinds.specs.CopyingReceiver.{value_at, brought, first_of}

eqb-suc : (a b : ℕ) → (suc a == suc b) ≡ (a == b)
eqb-suc a b = grind (arith, nat_tests)

-- a value more at the end of the list
pub value_at-push : {A : Type 0} (xs : List A) (x : A) (q : ℕ) → value_at (xs ++ x ∷ []) q ≡ first_of (value_at xs q) (if q == length xs then Some x else None)
value_at-push [] x zero = refl
value_at-push [] x (suc q) = sym (cond-false (suc q == 0) (Some x) None (ne_eqb (suc q) 0 (λ e. omega arith)))
value_at-push (y ∷ xs) x zero = refl
value_at-push (y ∷ xs) x (suc q) = value_at-push xs x q ∙ ap (λ b. first_of (value_at xs q) (if b then Some x else None)) (sym (eqb-suc q (length xs)))

same_place : (from p n : ℕ) → from ≤ p + 2 ^ 31 → (p + 2 ^ 31 - from == n) ≡ (p + 2 ^ 31 == from + n)
same_place from p n below = grind (arith, nat_tests)

pub brought-push : {A : Type 0} (xs : List A) (x : A) (from p : ℕ)
    → brought (xs ++ x ∷ []) from p ≡ first_of (brought xs from p) (if p + 2 ^ 31 == from + length xs then Some x else None)
brought-push xs x from p = ⊎_elim
    (λ (before : p + 2 ^ 31 < from). rw (lt-ltb (p + 2 ^ 31) from before)
    (sym (cond-false (p + 2 ^ 31 == from + length xs) (Some x) None (ne_eqb (p + 2 ^ 31) (from + length xs) (λ e. omega arith)))))
    (λ (within : from ≤ p + 2 ^ 31). rw (le-ltb (p + 2 ^ 31) from within) (value_at-push xs x (p + 2 ^ 31 - from)
    ∙ ap (λ b. first_of (value_at xs (p + 2 ^ 31 - from)) (if b then Some x else None)) (same_place from p (length xs) within)))
    (cases_lt (p + 2 ^ 31) from)

pub same_position : (from i p : ℕ) → 2 ^ 31 ≤ from + i → (from + i - 2 ^ 31 == p) ≡ (p + 2 ^ 31 == from + i)
same_position from i p below = grind (arith, nat_tests)
