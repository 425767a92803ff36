-- What holders weigh, and what a list of them weighs once one became others.
use Rattle.std.proofs.Common.{◌≡◌, ◌∙◌, ℕ, ◌+◌, ◌++◌, List, [], ◌∷◌, length, if◌then◌else◌, Bool, true, false, Some, refl, sym, ap, arith, ⊎_elim}
use Rattle.std.{specs.{Prelude.{filter, count_by}, List.{list_any, sum_by}}, proofs.lemmas.{Bool.{cases_Bool, eqb-true, Decides.{nat_tests}}, List.Sums.{sum_by-cons}}}
use Rattle.zr_kinds.specs.{declared.holding.Holding.{Holding}, Holders.{becomes, is_same, weight}}
use Rattle.zr_kinds.specs.declared.holding.Holding.TheVariants as holding

pub same-equal : (one other : Holding) → is_same one other ≡ true → one ≡ other
same-equal holding.Own holding.Own same = refl
same-equal (holding.Piece o l) (holding.Piece p m) same =
    let offsets : o ≡ p = grind (arith, nat_tests) in let lens : l ≡ m = grind (arith, nat_tests) in cc
same-equal (holding.Sent a o l) (holding.Sent b p m) same =
    let apps : a ≡ b = grind (arith, nat_tests) in
    let offsets : o ≡ p = grind (arith, nat_tests) in
    let lens : l ≡ m = grind (arith, nat_tests) in
    cc
same-equal (holding.Held a o l) (holding.Held b p m) same =
    let apps : a ≡ b = grind (arith, nat_tests) in
    let offsets : o ≡ p = grind (arith, nat_tests) in
    let lens : l ≡ m = grind (arith, nat_tests) in
    cc
same-equal (holding.Spare a) (holding.Spare b) same = let apps : a ≡ b = eqb-true a b same in cc
same-equal (holding.Loan a o l) (holding.Loan b p m) same =
    let apps : a ≡ b = grind (arith, nat_tests) in
    let offsets : o ≡ p = grind (arith, nat_tests) in
    let lens : l ≡ m = grind (arith, nat_tests) in
    cc
same-equal (holding.Owed a) (holding.Owed b) same = let apps : a ≡ b = eqb-true a b same in cc
same-equal one other same = cc

-- ---- sums of weights

pub weight-append : (f : Holding → ℕ) (one other : List Holding) → weight f (one ++ other) ≡ weight f one + weight f other
weight-append f [] other = omega arith
weight-append f (h ∷ one) other = omega (arith, weight-append f one other)

pub weight-length : (held : List Holding) → weight (λ h. 1) held ≡ length held
weight-length [] = refl
weight-length (h ∷ held) = omega (arith, weight-length held)

weight-sum : (f : Holding → ℕ) (held : List Holding) → weight f held ≡ sum_by f held
weight-sum f [] = refl
weight-sum f (h ∷ held) = ap (λ n. f h + n) (weight-sum f held) ∙ sym (sum_by-cons f h held)

-- 1 for each that passes
abbrev pub one_if : (Holding → Bool) → Holding → ℕ
one_if p h = if p h then 1 else 0

pub weight-count : (p : Holding → Bool) (held : List Holding) → weight (one_if p) held ≡ count_by p held
weight-count p held = weight-sum (one_if p) held

pub weight-filter : (f : Holding → ℕ) (p : Holding → Bool) (held : List Holding)
    → weight f (filter p held) ≡ weight (λ h. if p h then f h else 0) held
weight-filter f p [] = refl
weight-filter f p (h ∷ held) = ⊎_elim
    (λ (yes : p h ≡ true). rw yes (ap (λ n. f h + n) (weight-filter f p held)))
    (λ (no : p h ≡ false). rw no (omega (arith, weight-filter f p held)))
    (cases_Bool (p h))

-- ---- holders that become others

-- the list has these holders in place of those
abbrev pub Moves : List Holding → List Holding → List Holding → List Holding → Type 0
Moves held olds news now = (f : Holding → ℕ) → weight f now + weight f olds ≡ weight f held + weight f news

pub some_becomes : (old : Holding) (these held : List Holding) → list_any (is_same old) held ≡ true
    → (later : List Holding) × (becomes old these held ≡ Some later) × Moves held (old ∷ []) these later
some_becomes old these [] some = cc
some_becomes old these (first ∷ held) some = ⊎_elim
    (λ (yes : is_same old first ≡ true). let equal : old ≡ first = same-equal old first yes in (
      these ++ held,
      rw yes refl,
      λ f. let weighs : f old ≡ f first = ap f equal in omega (arith, weighs, weight-append f these held),
    ))
    (λ (no : is_same old first ≡ false).
    let later : list_any (is_same old) held ≡ true = rw no at some in
    let rest = some_becomes old these held later in
    (first ∷ rest.0, rw (no, rest.1) refl, λ f. omega (arith, rest.2 f)))
    (cases_Bool (is_same old first))
