-- What is told of the flows' counts: those of which bytes were written.
use Rattle.std.proofs.Common.{◌≡◌, ◌≢◌, ℕ, zero, suc, ◌+◌, ◌<◌, ◌≤◌, ◌==◌, true, false, List, [], ◌∷◌, length, nat_lt, refl, ap, ◌∙◌, arith, ⊎_elim}
use Rattle.std.specs.{List.{AllByRecursion, Sorted.{IsStrictlySortedBy}}, Map.{keys_of}, Ordering.{nat_cmp}, declared.cmp.Ordering.TheVariants.{Less}}
use Rattle.std.proofs.lemmas.Bool.{cases_eq, eq-eqb, lt-ltb, ne_eqb}
use Rattle.flow_queues.specs.{Core.{total, Each}, Ends.{bytes_written_of, times_written}, Counting.{with_bytes}}

some-pass : (k : ℕ) → nat_lt 0 (suc k) ≡ true
some-pass k = lt-ltb 0 (suc k) (omega arith)

pub shown-length : (es : List (ℕ × ℕ)) → length (with_bytes es) ≤ length es
shown-length [] = omega arith
shown-length ((n, zero) ∷ es) = (let rest = shown-length es in omega (arith, rest))
shown-length ((n, suc k) ∷ es) = rw (some-pass k) (let rest = shown-length es in omega (arith, rest))

pub shown-total : (es : List (ℕ × ℕ)) → total (λ f. f.1) (with_bytes es) ≡ total (λ f. f.1) es
shown-total [] = refl
shown-total ((n, zero) ∷ es) = (let rest = shown-total es in omega (arith, rest))
shown-total ((n, suc k) ∷ es) = rw (some-pass k) (ap (λ m. suc k + m) (shown-total es))

pub shown-times : (n : ℕ) (es : List (ℕ × ℕ)) → times_written n (with_bytes es) ≤ times_written n es
shown-times n [] = omega arith
shown-times n ((m, zero) ∷ es) = (let rest = shown-times n es in omega (arith, rest))
shown-times n ((m, suc k) ∷ es) = rw (some-pass k) (let rest = shown-times n es in omega (arith, rest))

pub none-there : (n : ℕ) (es : List (ℕ × ℕ)) → times_written n es ≡ 0 → bytes_written_of n es ≡ 0
none-there n [] none = refl
none-there n (e ∷ es) none = ⊎_elim
    (λ (here : e.0 ≡ n). (let test : (e.0 == n) ≡ true = eq-eqb e.0 n here in absurd (omega (arith, rw test at none))))
    (λ (not : e.0 ≢ n). (let test : (e.0 == n) ≡ false = ne_eqb e.0 n not in rw test (none-there n es (omega (arith, none)))))
    (cases_eq e.0 n)

-- each stands there once at most
pub shown-bytes : (n : ℕ) (es : List (ℕ × ℕ)) → times_written n es ≤ 1 → bytes_written_of n (with_bytes es) ≡ bytes_written_of n es
shown-bytes n [] once = refl
shown-bytes n ((m, zero) ∷ es) once = ⊎_elim
    (λ (here : m ≡ n).
    let test : (m == n) ≡ true = eq-eqb m n here in
    let none : times_written n es ≡ 0 = omega (arith, rw test at once) in
    rw test (shown-bytes n es (omega (arith, none)) ∙ none-there n es none))
    (λ (not : m ≢ n). (let test : (m == n) ≡ false = ne_eqb m n not in rw test (shown-bytes n es (omega (arith, once)))))
    (cases_eq m n)
shown-bytes n ((m, suc k) ∷ es) once = rw (some-pass k) (⊎_elim
    (λ (here : m ≡ n). (let test : (m == n) ≡ true = eq-eqb m n here in rw test refl))
    (λ (not : m ≢ n). (let test : (m == n) ≡ false = ne_eqb m n not in rw test (shown-bytes n es (omega (arith, once)))))
    (cases_eq m n))

pub shown-each : (P : ℕ × ℕ → Type 0) (es : List (ℕ × ℕ)) → Each P es → Each P (with_bytes es)
shown-each P [] each = tt
shown-each P ((n, zero) ∷ es) each = shown-each P es each.1
shown-each P ((n, suc k) ∷ es) each = rw (some-pass k) (each.0, shown-each P es each.1)

pub shown-some : (es : List (ℕ × ℕ)) → Each (λ f. 0 < f.1) (with_bytes es)
shown-some [] = tt
shown-some ((n, zero) ∷ es) = shown-some es
shown-some ((n, suc k) ∷ es) = rw (some-pass k) (omega arith, shown-some es)

shown-above : (number : ℕ) (es : List (ℕ × ℕ)) → AllByRecursion (λ y. nat_cmp number y ≡ Less) (keys_of es)
    → AllByRecursion (λ y. nat_cmp number y ≡ Less) (keys_of (with_bytes es))
shown-above number [] above = above
shown-above number ((n, zero) ∷ es) above = shown-above number es above.1
shown-above number ((n, suc k) ∷ es) above = rw (some-pass k) (above.0, shown-above number es above.1)

pub shown-sorted : (es : List (ℕ × ℕ)) → IsStrictlySortedBy nat_cmp (keys_of es) → IsStrictlySortedBy nat_cmp (keys_of (with_bytes es))
unfolding IsStrictlySortedBy
shown-sorted [] sorted = sorted
shown-sorted ((n, zero) ∷ es) sorted = shown-sorted es sorted.1
shown-sorted ((n, suc k) ∷ es) sorted = rw (some-pass k) (shown-above n es sorted.0, shown-sorted es sorted.1)
