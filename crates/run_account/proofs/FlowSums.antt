-- The bytes of an application's flows, added up by the flows' numbers.
use Rattle.std.proofs.Common.{◌≡◌, ◌≢◌, ℕ, zero, suc, ◌+◌, ◌<◌, ◌≤◌, List, [], ◌∷◌, length, true, false, ◌==◌, if◌then◌else◌, Some, refl, ap, subst, ◌∙◌, arith, ⊎_elim}
use Rattle.std.{specs.List.{slice_get, sum_by}, proofs.lemmas.{Bool.{eq-eqb, ne_eqb, cases_eq}, List.Sums.{sum_by-cons}}}
use Rattle.app_worker.specs.Core.{total, Each}
use Rattle.flow_queues.{specs.Ends.{bytes_written_of, times_written}, proofs.Shown.{none-there}}

-- ---- sums over so many numbers from one on

abbrev pub over : (ℕ → ℕ) → ℕ → ℕ → ℕ
over g from zero = 0
over g from (suc more) = g from + over g (suc from) more

pub sum-by-place : {A : Type 0} (f : A → ℕ) (g : ℕ → ℕ) (xs : List A) (from : ℕ)
    → ((n : ℕ) (x : A) → slice_get xs n ≡ Some x → f x ≡ g (from + n)) → sum_by f xs ≡ over g from (length xs)
sum-by-place f g [] from same = refl
sum-by-place f g (x ∷ xs) from same =
    let at_first : from + 0 ≡ from = omega arith in
    let first : f x ≡ g from = same 0 x refl ∙ ap g at_first in
    let later : sum_by f xs ≡ over g (suc from) (length xs) = sum-by-place f g xs (suc from)
    (λ n y at. let place : from + suc n ≡ suc from + n = omega arith in same (suc n) y at ∙ ap g place) in
    let cons : sum_by f (x ∷ xs) ≡ f x + sum_by f xs = sum_by-cons f x xs in
    omega (arith, cons, first, later)

over-same : (g h : ℕ → ℕ) (from k : ℕ) → ((n : ℕ) → g n ≡ h n) → over g from k ≡ over h from k
over-same g h from zero same = refl
over-same g h from (suc k) same = omega (arith, same from, over-same g h (suc from) k same)

pub over-add : (g h : ℕ → ℕ) (from k : ℕ) → over (λ n. g n + h n) from k ≡ over g from k + over h from k
over-add g h from zero = refl
over-add g h from (suc k) = omega (arith, over-add g h (suc from) k)

pub over-zero : (from k : ℕ) → over (λ n. 0) from k ≡ 0
over-zero from zero = refl
over-zero from (suc k) = omega (arith, over-zero (suc from) k)

-- one number counts, and the others don't
abbrev pub only : ℕ → ℕ → ℕ → ℕ
only number bytes n = if number == n then bytes else 0

only-here : (number bytes n : ℕ) → number ≡ n → only number bytes n ≡ bytes
only-here number bytes n same = let test : (number == n) ≡ true = eq-eqb number n same in rw test refl

only-other : (number bytes n : ℕ) → number ≢ n → only number bytes n ≡ 0
only-other number bytes n other = let test : (number == n) ≡ false = ne_eqb number n other in rw test refl

over-behind : (number bytes from k : ℕ) → number < from → over (only number bytes) from k ≡ 0
over-behind number bytes from zero behind = refl
over-behind number bytes from (suc k) behind =
    let first : only number bytes from ≡ 0 = only-other number bytes from (λ same. absurd (omega (arith, same, behind))) in
    omega (arith, first, over-behind number bytes (suc from) k (omega arith))

pub over-one : (number bytes from k : ℕ) → from ≤ number → number < from + k → over (only number bytes) from k ≡ bytes
over-one number bytes from zero above below = absurd (omega arith)
over-one number bytes from (suc k) above below = ⊎_elim
    (λ (same : number ≡ from).
    omega (arith, only-here number bytes from same, over-behind number bytes (suc from) k (omega (arith, same))))
    (λ (other : number ≢ from).
    omega (arith, only-other number bytes from other, over-one number bytes (suc from) k (omega (arith, other, above)) (omega (arith, below))))
    (cases_eq number from)

-- ---- flows

first-bytes : (f : ℕ × ℕ) (fs : List (ℕ × ℕ)) (n : ℕ) → times_written f.0 (f ∷ fs) ≤ 1 → bytes_written_of n (f ∷ fs) ≡ only f.0 f.1 n + bytes_written_of n fs
first-bytes f fs n one = ⊎_elim
    (λ (same : f.0 ≡ n).
    let test : (f.0 == n) ≡ true = eq-eqb f.0 n same in
    let own : (f.0 == f.0) ≡ true = eq-eqb f.0 f.0 refl in
    let counted : times_written f.0 (f ∷ fs) ≡ 1 + times_written f.0 fs = rw own refl in
    let none : bytes_written_of n fs ≡ 0 = none-there n fs (subst (λ k. times_written k fs ≡ 0) same (omega (arith, one, counted))) in
    rw (test, none) (omega arith))
    (λ (other : f.0 ≢ n).
    let test : (f.0 == n) ≡ false = ne_eqb f.0 n other in
    rw test (omega arith))
    (cases_eq f.0 n)

fewer : (f : ℕ × ℕ) (fs : List (ℕ × ℕ)) (n : ℕ) → times_written n (f ∷ fs) ≤ 1 → times_written n fs ≤ 1
fewer f fs n one = omega (arith, one)

-- where each flow has a number of its own, below so many, the bytes of all are those of all numbers
pub bytes-by-number : (flows : List (ℕ × ℕ)) (count : ℕ) → ((number : ℕ) → times_written number flows ≤ 1) → Each (λ f. f.0 < count) flows
    → over (λ n. bytes_written_of n flows) 0 count ≡ total (λ f. f.1) flows
bytes-by-number [] count one below = over-zero 0 count
bytes-by-number (f ∷ fs) count one below =
    let same : over (λ n. bytes_written_of n (f ∷ fs)) 0 count ≡ over (λ n. only f.0 f.1 n + bytes_written_of n fs) 0 count =
    over-same (λ n. bytes_written_of n (f ∷ fs)) (λ n. only f.0 f.1 n + bytes_written_of n fs) 0 count (λ n. first-bytes f fs n (one f.0)) in
    let parts : over (λ n. only f.0 f.1 n + bytes_written_of n fs) 0 count ≡ over (only f.0 f.1) 0 count + over (λ n. bytes_written_of n fs) 0 count =
    over-add (only f.0 f.1) (λ n. bytes_written_of n fs) 0 count in
    let first : over (only f.0 f.1) 0 count ≡ f.1 = over-one f.0 f.1 0 count (omega arith) (omega (arith, below.0)) in
    let later : over (λ n. bytes_written_of n fs) 0 count ≡ total (λ g. g.1) fs = bytes-by-number fs count (λ n. fewer f fs n (one n)) below.1 in
    omega (arith, same, parts, first, later)
