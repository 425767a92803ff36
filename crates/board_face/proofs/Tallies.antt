-- How many elements of a list meet a test, and sums over a list, by recursion, so that they compute.
use Rattle.std.{specs.Prelude.{count_by}, proofs.lemmas.List.Sums.{length-filter}}
use Rattle.std.proofs.Common.{◌≡◌, ℕ, zero, suc, ◌+◌, ◌<◌, ◌≤◌, Bool, true, false, cond, List, [], ◌∷◌, ◌++◌, length, map}
use Rattle.std.{proofs.{Common.{get_or, set, refl, ap, sym, ◌∙◌, arith, length-append}, lemmas.Bool.{false≢true}}, specs.{Prelude.{filter, Contains}, List.{flat_map}}}
use Rattle.board_face.specs.Lists.{without}
pub use Rattle.board_face.specs.Lists.{total, one_if}

abbrev pub tally : {A : Type 0} → (A → Bool) → List A → ℕ
tally test [] = 0
tally test (x ∷ xs) = one_if (test x) + tally test xs

pub tally-append : {A : Type 0} (test : A → Bool) (xs ys : List A) → tally test (xs ++ ys) ≡ tally test xs + tally test ys
tally-append test [] ys = omega arith
tally-append test (x ∷ xs) ys = omega (arith, tally-append test xs ys)

pub tally-push : {A : Type 0} (test : A → Bool) (xs : List A) (x : A) → tally test (xs ++ x ∷ []) ≡ tally test xs + one_if (test x)
tally-push test xs x = omega (arith, tally-append test xs (x ∷ []))

length-case : {A : Type 0} (b : Bool) (x : A) (ys : List A) (n : ℕ) → length ys ≡ n → length (cond b (x ∷ ys) ys) ≡ one_if b + n
length-case true x ys n e = omega (arith, e)
length-case false x ys n e = omega (arith, e)

pub length-tally : {A : Type 0} (test : A → Bool) (xs : List A) → length (filter test xs) ≡ tally test xs
length-tally test [] = refl
length-tally test (x ∷ xs) = length-case (test x) x (filter test xs) (tally test xs) (length-tally test xs)

pub tally-map : {A B : Type 0} (test : B → Bool) (f : A → B) (xs : List A) → tally test (map f xs) ≡ tally (λ x. test (f x)) xs
tally-map test f [] = refl
tally-map test f (x ∷ xs) = ap (λ n. one_if (test (f x)) + n) (tally-map test f xs)

pub one_if-le : (b : Bool) → one_if b ≤ 1
one_if-le true = omega arith
one_if-le false = omega arith

pub tally-le : {A : Type 0} (test : A → Bool) (xs : List A) → tally test xs ≤ length xs
tally-le test [] = omega arith
tally-le test (x ∷ xs) = omega (arith, one_if-le (test x), tally-le test xs)

pub tally-agree : {A : Type 0} (p q : A → Bool) → ((x : A) → p x ≡ q x) → (xs : List A) → tally p xs ≡ tally q xs
tally-agree p q same [] = refl
tally-agree p q same (x ∷ xs) = rw (same x) (ap (λ n. one_if (q x) + n) (tally-agree p q same xs))

-- ---- one element taken out

without-case : {A B : Type 0} (f : A → B) (g : B → ℕ) (c : Bool) (w : ℕ) (x : A) (xs ys : List A) → (c ≡ true → g (f x) ≡ w)
    → (c ≡ false → total (λ y. g (f y)) ys + w ≡ total (λ y. g (f y)) xs)
    → total (λ y. g (f y)) (cond c xs (x ∷ ys)) + w ≡ g (f x) + total (λ y. g (f y)) xs
without-case f g true w x xs ys here there = omega (arith, here refl)
without-case f g false w x xs ys here there = omega (arith, there refl)

-- Where the list has an element that shows q, the first that `same` finds shows q too, and taking it out takes what q weighs.
pub total-without : {A B : Type 0} (f : A → B) (same : B → Bool) (q : B) → ((y : B) → same y ≡ true → y ≡ q) → same q ≡ true
    → (g : B → ℕ) (xs : List A) → Contains (map f xs) q
    → total (λ x. g (f x)) (without (λ x. same (f x)) xs) + g q ≡ total (λ x. g (f x)) xs
total-without f same q is refls g [] (k, there, e) = absurd (omega arith)
total-without f same q is refls g (x ∷ xs) (zero, there, e) =
    without-case f g (same (f x)) (g q) x xs (without (λ x. same (f x)) xs) (λ meets. ap g (is (f x) meets))
    (λ misses. absurd (false≢true (sym misses ∙ (ap same e ∙ refls))))
total-without f same q is refls g (x ∷ xs) (suc k, there, e) =
    without-case f g (same (f x)) (g q) x xs (without (λ x. same (f x)) xs) (λ meets. ap g (is (f x) meets))
    (λ misses. total-without f same q is refls g xs (k, omega arith, e))

pub tally-total : {A : Type 0} (test : A → Bool) (xs : List A) → tally test xs ≡ total (λ x. one_if (test x)) xs
tally-total test [] = refl
tally-total test (x ∷ xs) = omega (arith, tally-total test xs)

-- and so with a count of those that meet a test
pub tally-without : {A B : Type 0} (f : A → B) (same : B → Bool) (q : B) → ((y : B) → same y ≡ true → y ≡ q) → same q ≡ true
    → (test : B → Bool) (xs : List A) → Contains (map f xs) q
    → tally (λ x. test (f x)) (without (λ x. same (f x)) xs) + one_if (test q) ≡ tally (λ x. test (f x)) xs
tally-without f same q is refls test xs has =
    omega (
      arith,
      tally-total (λ x. test (f x)) xs,
      tally-total (λ x. test (f x)) (without (λ x. same (f x)) xs),
      total-without f same q is refls (λ y. one_if (test y)) xs has,
    )

-- ---- sums

pub total-append : {A : Type 0} (f : A → ℕ) (xs ys : List A) → total f (xs ++ ys) ≡ total f xs + total f ys
total-append f [] ys = omega arith
total-append f (x ∷ xs) ys = omega (arith, total-append f xs ys)

pub total-set : {A : Type 0} (f : A → ℕ) (xs : List A) (i : ℕ) (v w : A) → i < length xs → get_or xs i v ≡ v
    → total f (set xs i w) + f v ≡ total f xs + f w
total-set f [] i v w within e = absurd (omega arith)
total-set f (x ∷ xs) zero v w within e = let same : f x ≡ f v = ap f e in omega arith
total-set f (x ∷ xs) (suc i) v w within e = omega (arith, total-set f xs i v w (omega arith) e)

pub total-agree : {A : Type 0} (f g : A → ℕ) → ((x : A) → f x ≡ g x) → (xs : List A) → total f xs ≡ total g xs
total-agree f g same [] = refl
total-agree f g same (x ∷ xs) = omega (arith, same x, total-agree f g same xs)

pub length-flat : {A B : Type 0} (f : A → List B) (xs : List A) → length (flat_map f xs) ≡ total (λ x. length (f x)) xs
length-flat f [] = refl
length-flat f (x ∷ xs) = simp length-append (omega (arith, length-flat f xs))

pub tally-flat : {A B : Type 0} (test : B → Bool) (f : A → List B) (xs : List A) → tally test (flat_map f xs) ≡ total (λ x. tally test (f x)) xs
tally-flat test f [] = refl
tally-flat test f (x ∷ xs) = omega (arith, tally-append test (f x) (flat_map f xs), tally-flat test f xs)

-- a sum is no greater where none of its numbers is
pub total-le : {A : Type 0} (f g : A → ℕ) (xs : List A) → ((x : A) → Contains xs x → f x ≤ g x) → total f xs ≤ total g xs
total-le f g [] each = omega arith
total-le f g (x ∷ xs) each =
    let here : f x ≤ g x = each x (0, omega arith, refl) in
    let there = total-le f g xs (λ y has. each y (suc has.0, omega arith, has.2)) in
    omega arith

pub count-tally : {A : Type 0} (test : A → Bool) (xs : List A) → count_by test xs ≡ tally test xs
count-tally test xs = sym (length-filter test xs) ∙ length-tally test xs
