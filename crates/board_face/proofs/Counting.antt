-- How often a number stands in a list, and sums and counts of which nothing is left.
use Rattle.std.proofs.Common.{◌≡◌, ℕ, ◌+◌, ◌≤◌, Bool, true, false, List, [], ◌∷◌, ◌++◌, map, refl, ap, sym, subst, ◌∙◌, arith, ⊎_elim}
use Rattle.std.{specs.{Prelude.{◌≢◌, ◌⊎◌, ◌==◌, ◌&&◌, if◌then◌else◌, nat_eq, count_by, sum_by, All}, List.{flat_map}}, proofs.lemmas.Bool.Decides.{eqb_tells}}
use Rattle.std.proofs.lemmas.List.{Elements.{All-nil, All-cons, All-head, All-tail}, Sums.{sum_by-cons, sum_by-append}}
use Rattle.board_face.proofs.{ListLemmas.{eqb_same, not-eqb}, Tallies.{one_if, tally, total, total-append}}

-- ---- what a test weighs

pub weight-same : (b : ℕ) → one_if (b == b) ≡ 1
weight-same b = ap one_if (eqb_same b)

pub weight-other : (a b : ℕ) → a ≢ b → one_if (a == b) ≡ 0
weight-other a b other = ap one_if (not-eqb a b other)

pub weight-swap : (a b : ℕ) → one_if (a == b) ≡ one_if (b == a)
weight-swap a b =
    ⊎_elim
    (λ t. let e : a ≡ b = t.1 in omega (arith, ap one_if t.0, subst (λ c. one_if (c == a) ≡ 1) e (weight-same a)))
    (λ t. omega (arith, ap one_if t.0, weight-other b a (λ e. t.1 (sym e))))
    (eqb_tells a b)

pub weight-none : (c : Bool) → one_if c ≡ 0 → c ≡ false
weight-none true e = absurd (omega arith)
weight-none false e = refl

pub weight-and : (c d : Bool) → (if c then one_if d else 0) ≡ one_if (c && d)
weight-and true d = refl
weight-and false d = refl

-- what w users more are where the test holds
pub user_case : (c : Bool) (l m n w : ℕ) → m ≡ n + w → (if c then l + m else 0) ≡ (if c then l + n else 0) + (if c then w else 0)
user_case true l m n w e = omega arith
user_case false l m n w e = refl

-- ---- how often a number stands in a list

pub count-first : {A : Type 0} (p : A → Bool) (x : A) (xs : List A) → count_by p (x ∷ xs) ≡ one_if (p x) + count_by p xs
count-first p x xs = sum_by-cons (λ y. if p y then 1 else 0) x xs

pub count-cons : (b x : ℕ) (xs : List ℕ) → count_by (nat_eq b) (x ∷ xs) ≡ one_if (b == x) + count_by (nat_eq b) xs
count-cons b x xs = count-first (nat_eq b) x xs

pub count-append : (b : ℕ) (xs ys : List ℕ) → count_by (nat_eq b) (xs ++ ys) ≡ count_by (nat_eq b) xs + count_by (nat_eq b) ys
count-append b xs ys = sum_by-append (λ y. if nat_eq b y then 1 else 0) xs ys

pub count-push : (b x : ℕ) (xs : List ℕ) → count_by (nat_eq b) (xs ++ x ∷ []) ≡ count_by (nat_eq b) xs + one_if (b == x)
count-push b x xs = omega (arith, count-append b xs (x ∷ []), count-cons b x [])

-- ---- sums

pub sum-map : {A B : Type 0} (f : B → ℕ) (g : A → B) (xs : List A) → sum_by f (map g xs) ≡ sum_by (λ x. f (g x)) xs
sum-map f g [] = refl
sum-map f g (x ∷ xs) = omega (arith, sum_by-cons f (g x) (map g xs), sum_by-cons (λ y. f (g y)) x xs, sum-map f g xs)

pub total-flat : {A B : Type 0} (f : B → ℕ) (g : A → List B) (xs : List A) → total f (flat_map g xs) ≡ total (λ x. total f (g x)) xs
total-flat f g [] = refl
total-flat f g (x ∷ xs) = omega (arith, total-append f (g x) (flat_map g xs), total-flat f g xs)

pub total-zero : {A : Type 0} (f : A → ℕ) (xs : List A) → All (λ x. f x ≡ 0) xs → total f xs ≡ 0
total-zero f [] none = refl
total-zero f (x ∷ xs) none = omega (arith, All-head (λ x. f x ≡ 0) x xs none, total-zero f xs (All-tail (λ x. f x ≡ 0) x xs none))

-- nothing passes a test that no element is counted by
pub All-none : {A : Type 0} (f : A → ℕ) (b : ℕ) (xs : List A) → tally (λ x. f x == b) xs ≡ 0 → All (λ x. f x ≢ b) xs
All-none f b [] none = All-nil (λ x. f x ≢ b)
All-none f b (x ∷ xs) none =
    All-cons (λ y. f y ≢ b) x xs
    (λ e. absurd (let one : one_if (f x == b) ≡ 1 = subst (λ c. one_if (f x == c) ≡ 1) e (weight-same (f x)) in omega (arith, one, none)))
    (All-none f b xs (omega (arith, none)))

-- ---- a buffer with a holder more

-- it leaves its free place where nobody had it
pub once-taken : (p p' f f' w : ℕ) → f ≡ (if p == 0 then 1 else 0) → f' + w ≡ f → p' ≡ p + w → (w ≡ 0) ⊎ ((w ≡ 1) × (p ≡ 0))
    → f' ≡ (if p' == 0 then 1 else 0)
once-taken p p' f f' w e less more which =
    ⊎_elim
    (λ (none : w ≡ 0). let same : p' ≡ p = omega arith in rw same (omega (arith, e)))
    (λ (one : (w ≡ 1) × (p ≡ 0)). let before : p ≡ 0 = one.1 in
    let after : p' ≡ 1 = omega (arith, one.0) in
    let full : f ≡ 1 = rw before at e in
    rw after (omega (arith, one.0)))
    which

-- ---- and one with a holder less

-- It has w holders less, which are u free places more where it comes to be free: where none is left.
pub once-freed : (came : Bool) (p p' f f' w u n : ℕ) → f ≡ (if p == 0 then 1 else 0) → p' + w ≡ p → f' ≡ f + (if came then u else 0)
    → ((w ≡ 0) × (u ≡ 0)) ⊎ ((1 ≤ w) × (u ≡ 1) × (p' ≡ n) × (came ≡ (n == 0))) → f' ≡ (if p' == 0 then 1 else 0)
once-freed came p p' f f' w u n e less more which =
    ⊎_elim
    (λ none. let same : p' ≡ p = omega (arith, none.0) in rw same (no-more came f f' u none.1 more ∙ e))
    (λ one. let used : f ≡ 0 = e ∙ ap one_if (not-eqb p 0 (λ z. absurd (omega (arith, one.0)))) in
    one-more came f f' u used one.1 more ∙ ap one_if (one.3 ∙ ap (λ x. x == 0) (sym one.2)))
    which
  where
    no-more : (came : Bool) (f f' u : ℕ) → u ≡ 0 → f' ≡ f + (if came then u else 0) → f' ≡ f
    no-more true f f' u none more = omega arith
    no-more false f f' u none more = omega arith

    one-more : (came : Bool) (f f' u : ℕ) → f ≡ 0 → u ≡ 1 → f' ≡ f + (if came then u else 0) → f' ≡ one_if came
    one-more true f f' u used one more = omega arith
    one-more false f f' u used one more = omega arith
