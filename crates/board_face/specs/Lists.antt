-- Lists of tokens, from which one is taken out.
use Rattle.std.specs.Prelude.{ℕ, zero, suc, ◌+◌, Bool, if◌then◌else◌, List, [], ◌∷◌, ◌==◌, ◌&&◌}
use Rattle.zr_kinds.specs.declared.place.Place.{Place}
pub use Rattle.zr_kinds.specs.Counting.{one_if}

-- the list without the first element that meets the test
abbrev pub without : {A : Type 0} → (A → Bool) → List A → List A
without test [] = []
without test (x ∷ xs) = if test x then xs else x ∷ without test xs

-- what f says of the first element that meets the test, and `other` where none does
abbrev pub at_first : {A B : Type 0} → (A → Bool) → (A → B) → B → List A → B
at_first test f other [] = other
at_first test f other (x ∷ xs) = if test x then f x else at_first test f other xs

-- how many numbers below n meet the test
abbrev pub count_below : (ℕ → Bool) → ℕ → ℕ
count_below test zero = 0
count_below test (suc n) = (if test n then 1 else 0) + count_below test n

-- two places are one
abbrev pub same_place : Place → Place → Bool
same_place p q = (p.buffer == q.buffer) && (p.offset == q.offset) && (p.len == q.len)

-- the sum of what each element weighs
abbrev pub total : {A : Type 0} → (A → ℕ) → List A → ℕ
total f [] = 0
total f (x ∷ xs) = f x + total f xs
