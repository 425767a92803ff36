-- Sums over lists, where a list is mapped or filtered, or an element comes or goes.
pub use Rattle.board_face.proofs.Tallies.{total-without}
use Rattle.zr_kinds.proofs.Booleans.{if-none}
use Rattle.std.{specs.Prelude.{◌==◌, if◌then◌else◌, filter}, proofs.Common.{◌≡◌, ℕ, ◌+◌, Bool, true, false, cond, List, [], ◌∷◌, ◌++◌, map, refl, ap, arith}}
use Rattle.board_face.{specs.{Holdings.{here}}, proofs.Tallies.{total, total-append}}

pub total-push : {A : Type 0} (f : A → ℕ) (xs : List A) (x : A) → total f (xs ++ x ∷ []) ≡ total f xs + f x
total-push f xs x = omega (arith, total-append f xs (x ∷ []))

pub total-map : {A B : Type 0} (f : B → ℕ) (g : A → B) (xs : List A) → total f (map g xs) ≡ total (λ x. f (g x)) xs
total-map f g [] = refl
total-map f g (x ∷ xs) = ap (λ n. f (g x) + n) (total-map f g xs)

pub filter-case : {A : Type 0} (f : A → ℕ) (c : Bool) (x : A) (ys : List A) (n : ℕ) → total f ys ≡ n
    → total f (cond c (x ∷ ys) ys) ≡ (if c then f x else 0) + n
filter-case f true x ys n e = omega (arith, e)
filter-case f false x ys n e = omega (arith, e)

pub total-filter : {A : Type 0} (f : A → ℕ) (p : A → Bool) (xs : List A) → total f (filter p xs) ≡ total (λ x. if p x then f x else 0) xs
total-filter f p [] = refl
total-filter f p (x ∷ xs) = filter-case f (p x) x (filter p xs) _ (total-filter f p xs)

pub zeros : {A : Type 0} (xs : List A) → total (λ x. 0) xs ≡ 0
zeros [] = refl
zeros (x ∷ xs) = omega (arith, zeros xs)

-- what weighs nothing in a buffer
pub none : {A : Type 0} (f : A → ℕ) (b : ℕ) (xs : List A) → total (λ x. here b (f x) 0) xs ≡ 0
none f b [] = refl
none f b (x ∷ xs) = omega (arith, if-none (f x == b) 0 refl, none f b xs)
