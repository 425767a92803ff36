-- A flow's count is made, and bytes are added to it.
use Rattle.std.proofs.Common.{◌≡◌, ◌≢◌, ℕ, ◌+◌, ◌<◌, ◌≤◌, ◌==◌, true, false, if◌then◌else◌, List, [], ◌∷◌, refl, sym, ap, subst, ◌∙◌, arith, ⊎_elim}
use Rattle.std.specs.{Prelude.{Some, None, IsSome}, Ordering.{nat_cmp}, Cmp.{nat_cmp_is}, Map.{lookup, set_value}, BTreeMap.{insert_entry, is_at}}
use Rattle.std.{specs.declared.cmp.Ordering.TheVariants.{Less, Equal, Greater}, proofs.lemmas.Bool.{cases_eq, cases_lt, eq-eqb, ne_eqb}}
use Rattle.flow_queues.specs.{Ends.{bytes_written_of, times_written}, Counting.{AddsTo}}

is-less : (a b : ℕ) → a < b → nat_cmp a b ≡ Less
is-less a b below = sym (nat_cmp_is a b Less below)

is-equal : (a b : ℕ) → a ≡ b → nat_cmp a b ≡ Equal
is-equal a b same = sym (nat_cmp_is a b Equal same)

is-greater : (a b : ℕ) → b < a → nat_cmp a b ≡ Greater
is-greater a b over = sym (nat_cmp_is a b Greater over)

same-number : (n : ℕ) → (n == n) ≡ true
same-number n = eq-eqb n n refl

-- none is counted of a flow that doesn't stand there
absent-none : (flow : ℕ) (es : List (ℕ × ℕ)) → lookup (is_at (nat_cmp flow)) es ≡ None → bytes_written_of flow es ≡ 0
absent-none flow [] none = refl
absent-none flow (e ∷ es) none = ⊎_elim
    (λ (same : flow ≡ e.0). (let here : lookup (is_at (nat_cmp flow)) (e ∷ es) ≡ Some e.1 = rw (is-equal flow e.0 same) refl in absurd (cc)))
    (λ (other : flow ≢ e.0).
    let away : (e.0 == flow) ≡ false = ne_eqb e.0 flow (λ same. other (sym same)) in
    rw away (absent-none flow es (⊎_elim
    (λ (below : flow < e.0). rw (is-less flow e.0 below) at none)
    (λ (above : e.0 ≤ flow). rw (is-greater flow e.0 (let over : e.0 < flow = omega arith in over)) at none)
    (cases_lt flow e.0))))
    (cases_eq flow e.0)

absent-times : (flow : ℕ) (es : List (ℕ × ℕ)) → lookup (is_at (nat_cmp flow)) es ≡ None → times_written flow es ≡ 0
absent-times flow [] none = refl
absent-times flow (e ∷ es) none = ⊎_elim
    (λ (same : flow ≡ e.0). (let here : lookup (is_at (nat_cmp flow)) (e ∷ es) ≡ Some e.1 = rw (is-equal flow e.0 same) refl in absurd (cc)))
    (λ (other : flow ≢ e.0).
    let away : (e.0 == flow) ≡ false = ne_eqb e.0 flow (λ same. other (sym same)) in
    let behind : times_written flow es ≡ 0 = absent-times flow es (⊎_elim
    (λ (below : flow < e.0). rw (is-less flow e.0 below) at none)
    (λ (above : e.0 ≤ flow). rw (is-greater flow e.0 (let over : e.0 < flow = omega arith in over)) at none)
    (cases_lt flow e.0)) in
    rw away (omega (arith, behind)))
    (cases_eq flow e.0)

-- behind one entry
adds-behind : (flow bytes : ℕ) (e : ℕ × ℕ) (was now : List (ℕ × ℕ)) → e.0 ≢ flow → AddsTo flow bytes was now → AddsTo flow bytes (e ∷ was) (e ∷ now)
adds-behind flow bytes e was now other adds = record {
  sum = omega (arith, adds.sum);
  counts = λ n. ⊎_elim
      (λ (here : e.0 ≡ n).
      let test : (e.0 == n) ≡ true = eq-eqb e.0 n here in
      let away : (n == flow) ≡ false = ne_eqb n flow (λ same. other (here ∙ same)) in
      rw (test, away) (omega arith))
      (λ (not : e.0 ≢ n). rw (let test : (e.0 == n) ≡ false = ne_eqb e.0 n not in test) (adds.counts n))
      (cases_eq e.0 n);
  others = λ n away. ap (λ k. (if e.0 == n then 1 else 0) + k) (adds.others n away);
  once = λ most.
      let test : (e.0 == flow) ≡ false = ne_eqb e.0 flow other in
      let less : times_written flow was ≤ times_written flow (e ∷ was) = omega arith in
      let later : times_written flow now ≤ 1 = adds.once (omega (arith, less, most)) in
      rw test (omega (arith, later));
}

-- an entry of none was put before these
adds-first : (flow : ℕ) (es : List (ℕ × ℕ)) → bytes_written_of flow es ≡ 0 → times_written flow es ≡ 0 → AddsTo flow 0 es ((flow, 0) ∷ es)
adds-first flow es none no_time = record {
  sum = omega arith;
  counts = λ n. ⊎_elim
      (λ (here : flow ≡ n).
      let test : (flow == n) ≡ true = eq-eqb flow n here in
      let back : (n == flow) ≡ true = eq-eqb n flow (sym here) in
      rw (test, back) (sym (let zero_is : bytes_written_of n es + 0 ≡ 0 = omega (arith, subst (λ m. bytes_written_of m es ≡ 0) here none) in zero_is)))
      (λ (not : flow ≢ n).
      let test : (flow == n) ≡ false = ne_eqb flow n not in
      let back : (n == flow) ≡ false = ne_eqb n flow (λ same. not (sym same)) in
      rw (test, back) (omega arith))
      (cases_eq flow n);
  others = λ n away. rw (let test : (flow == n) ≡ false = ne_eqb flow n (λ same. away (sym same)) in test) (omega arith);
  once = λ most. rw (same-number flow) (omega (arith, no_time));
}

pub adds-new : (flow : ℕ) (es : List (ℕ × ℕ)) → lookup (is_at (nat_cmp flow)) es ≡ None → AddsTo flow 0 es (insert_entry nat_cmp es flow 0)
adds-new flow [] none = adds-first flow [] refl refl
adds-new flow (e ∷ es) none = ⊎_elim
    (λ (same : flow ≡ e.0). (let here : lookup (is_at (nat_cmp flow)) (e ∷ es) ≡ Some e.1 = rw (is-equal flow e.0 same) refl in absurd (cc)))
    (λ (other : flow ≢ e.0). ⊎_elim
    (λ (below : flow < e.0). rw (is-less flow e.0 below) (adds-first flow (e ∷ es) (absent-none flow (e ∷ es) none) (absent-times flow (e ∷ es) none)))
    (λ (above : e.0 ≤ flow).
    let order : nat_cmp flow e.0 ≡ Greater = is-greater flow e.0 (let over : e.0 < flow = omega arith in over) in
    rw order (adds-behind flow 0 e es (insert_entry nat_cmp es flow 0) (λ same. other (sym same)) (adds-new flow es (rw order at none))))
    (cases_lt flow e.0))
    (cases_eq flow e.0)

-- the entry that stands there counts more
adds-here : (flow bytes : ℕ) (e : ℕ × ℕ) (es : List (ℕ × ℕ)) → flow ≡ e.0 → AddsTo flow bytes (e ∷ es) ((e.0, e.1 + bytes) ∷ es)
adds-here flow bytes e es same = record {
  sum = omega arith;
  counts = λ n. ⊎_elim
      (λ (here : e.0 ≡ n).
      let test : (e.0 == n) ≡ true = eq-eqb e.0 n here in
      let back : (n == flow) ≡ true = eq-eqb n flow (sym (same ∙ here)) in
      rw (test, back) refl)
      (λ (not : e.0 ≢ n).
      let test : (e.0 == n) ≡ false = ne_eqb e.0 n not in
      let back : (n == flow) ≡ false = ne_eqb n flow (λ is. not (sym (is ∙ same))) in
      rw (test, back) (omega arith))
      (cases_eq e.0 n);
  others = λ n away. refl;
  once = λ most. most;
}

pub adds-more : (flow bytes : ℕ) (es : List (ℕ × ℕ)) → IsSome (lookup (is_at (nat_cmp flow)) es)
    → AddsTo flow bytes es (set_value (is_at (nat_cmp flow)) es (bytes_written_of flow es + bytes))
adds-more flow bytes [] there = absurd (cc)
adds-more flow bytes (e ∷ es) there = ⊎_elim
    (λ (same : flow ≡ e.0).
    let test : (e.0 == flow) ≡ true = eq-eqb e.0 flow (sym same) in
    rw (is-equal flow e.0 same, test) (adds-here flow bytes e es same))
    (λ (other : flow ≢ e.0).
    let away : (e.0 == flow) ≡ false = ne_eqb e.0 flow (λ same. other (sym same)) in
    ⊎_elim
    (λ (below : flow < e.0).
    let order : nat_cmp flow e.0 ≡ Less = is-less flow e.0 below in
    rw (order, away) (adds-behind flow bytes e es _ (λ same. other (sym same)) (adds-more flow bytes es (rw order at there))))
    (λ (above : e.0 ≤ flow).
    let order : nat_cmp flow e.0 ≡ Greater = is-greater flow e.0 (let over : e.0 < flow = omega arith in over) in
    rw (order, away) (adds-behind flow bytes e es _ (λ same. other (sym same)) (adds-more flow bytes es (rw order at there))))
    (cases_lt flow e.0))
    (cases_eq flow e.0)

-- what is counted is what stands there
pub counted-is : (flow : ℕ) (es : List (ℕ × ℕ)) (count : ℕ) → lookup (is_at (nat_cmp flow)) es ≡ Some count → bytes_written_of flow es ≡ count
counted-is flow [] count is = absurd (cc)
counted-is flow (e ∷ es) count is = ⊎_elim
    (λ (same : flow ≡ e.0).
    let test : (e.0 == flow) ≡ true = eq-eqb e.0 flow (sym same) in
    let here : lookup (is_at (nat_cmp flow)) (e ∷ es) ≡ Some e.1 = rw (is-equal flow e.0 same) refl in
    rw test (let value : e.1 ≡ count = cc in value))
    (λ (other : flow ≢ e.0).
    let away : (e.0 == flow) ≡ false = ne_eqb e.0 flow (λ same. other (sym same)) in
    rw away (counted-is flow es count (⊎_elim
    (λ (below : flow < e.0). rw (is-less flow e.0 below) at is)
    (λ (above : e.0 ≤ flow). rw (is-greater flow e.0 (let over : e.0 < flow = omega arith in over)) at is)
    (cases_lt flow e.0))))
    (cases_eq flow e.0)
