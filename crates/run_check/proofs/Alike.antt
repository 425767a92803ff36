-- What an event makes of the same holders is the same.
use Rattle.std.proofs.Common.{◌≡◌, ◌∙◌, ℕ, ◌+◌, ◌++◌, ◌≤◌, ◌-◌, List, [], ◌∷◌, length, eqb, ltb, Bool, true, false, not, ◌&&◌, ◌||◌}
use Rattle.std.{proofs.Common.{Option, Some, None, refl, sym, ap, subst, arith, ⊎_elim}, specs.Prelude.{filter, ◌==◌, ◌%◌, option_map, option_and_then}}
use Rattle.std.{specs.List.{list_any, list_all}, proofs.{lemmas.Bool.{cases_Bool, eqb-true}, Common.{length-append}}}
use Rattle.zr_kinds.specs.{declared.{event.Event.{Event}, holding.Holding.{Holding}}, Setting.{Setting}}
use Rattle.zr_kinds.specs.Holders.{Holdings, after, after_at, becomes, buffer_of_event, changed, has_counts, is_apart, is_in_range, is_same, is_pool_buffer, is_pool_count, is_reserve_of}
use Rattle.zr_kinds.{specs.Holders.{is_user, is_user_count, only_if, with_holders}, proofs.Weighing.{some_becomes, weight-length}}
use Rattle.zr_kinds.specs.declared.event.Event.TheVariants as event
use Rattle.zr_kinds.specs.declared.holding.Holding.TheVariants as holding
use Rattle.run_check.specs.Holding.{SameHolders, SameHoldings, can_place}
use Rattle.run_check.proofs.Weighing.{all-same, any-same, count-same, filter-same, length-same, none_becomes, same-append}

abbrev pub AreAlike : Option (List Holding) → Option (List Holding) → Type 0
AreAlike None None = Unit {0}
AreAlike (Some one) (Some other) = SameHolders one other
AreAlike one other = ⊥

alike_by : (one other : Option (List Holding)) (x y : Option (List Holding)) → one ≡ x → other ≡ y → AreAlike x y → AreAlike one other
alike_by one other x y e d alike = rw (e, d) alike

becomes-alike : (old : Holding) (these one other : List Holding) → SameHolders one other → AreAlike (becomes old these one) (becomes old these other)
becomes-alike old these one other same = ⊎_elim
    (λ (some : list_any (is_same old) one ≡ true).
    let first = some_becomes old these one some in
    let second = some_becomes old these other (sym (any-same (is_same old) one other same) ∙ some) in
    alike_by (becomes old these one) (becomes old these other) (Some first.0) (Some second.0) first.1 second.1
    (λ f. omega (arith, first.2 f, second.2 f, same f)))
    (λ (none : list_any (is_same old) one ≡ false).
    alike_by (becomes old these one) (becomes old these other) None None (none_becomes old these one none)
    (none_becomes old these other (sym (any-same (is_same old) one other same) ∙ none)) tt)
    (cases_Bool (list_any (is_same old) one))

only_if-alike : (test other_test : Bool) (one other : Option (List Holding)) → test ≡ other_test → AreAlike one other
    → AreAlike (only_if test one) (only_if other_test other)
only_if-alike true true one other e alike = alike
only_if-alike true false one other e alike = cc
only_if-alike false true one other e alike = cc
only_if-alike false false one other e alike = tt

empty-same : (may : Bool) (one other : List Holding) → SameHolders one other → (may && (length one == 0)) ≡ (may && (length other == 0))
empty-same may one other same = ap (λ n. may && (n == 0)) (length-same one other same)

can_place-same : (one other : List Holding) (o l : ℕ) → SameHolders one other → can_place one o l ≡ can_place other o l
can_place-same one other o l same =
    ap (λ b. b && ltb 0 l && (o % 64 == 0) && list_all (is_apart o l) one) (any-same (is_same holding.Own) one other same)
    ∙ ap (λ b. list_any (is_same holding.Own) other && ltb 0 l && (o % 64 == 0) && b) (all-same (is_apart o l) one other same)

pub changed-alike : (s : Setting) (one other : List Holding) (e : Event) → SameHolders one other → AreAlike (changed s one e) (changed s other e)
changed-alike s one other (event.Take b p) same =
    only_if-alike (is_pool_buffer s b && (length one == 0)) (is_pool_buffer s b && (length other == 0)) (Some (holding.Own ∷ [])) (Some (holding.Own ∷ []))
    (empty-same (is_pool_buffer s b) one other same) (λ f. refl)
changed-alike s one other (event.Place b o l p) same =
    only_if-alike (can_place one o l) (can_place other o l) (Some (one ++ holding.Piece o l ∷ [])) (Some (other ++ holding.Piece o l ∷ [])) (can_place-same one other o l same) (same-append one other (holding.Piece o l ∷ []) same)
changed-alike s one other (event.Sent a b o l) same = becomes-alike (holding.Piece o l) (holding.Sent a o l ∷ []) one other same
changed-alike s one other (event.Held a b o l) same = becomes-alike (holding.Sent a o l) (holding.Held a o l ∷ []) one other same
changed-alike s one other (event.Cut a b o l m p) same = only_if-alike (ltb 0 m && ltb m l) (ltb 0 m && ltb m l) (becomes (holding.Held a o l) (holding.Held a o m ∷ holding.Held a (o + m) (l - m) ∷ []) one) (becomes (holding.Held a o l) (holding.Held a o m ∷ holding.Held a (o + m) (l - m) ∷ []) other) refl (becomes-alike (holding.Held a o l) (holding.Held a o m ∷ holding.Held a (o + m) (l - m) ∷ []) one other same)
changed-alike s one other (event.Lend a b o l p u) same = becomes-alike (holding.Held a o l) (holding.Loan a o l ∷ []) one other same
changed-alike s one other (event.Back a b o l u) same = becomes-alike (holding.Loan a o l) (holding.Owed a ∷ []) one other same
changed-alike s one other (event.Honour a b p u) same = becomes-alike (holding.Owed a) [] one other same
changed-alike s one other (event.Stray a) same = same
changed-alike s one other (event.Free a b o l p) same = becomes-alike (holding.Held a o l) [] one other same
changed-alike s one other (event.Spare a b p) same =
    let may : Bool = is_pool_buffer s b || is_reserve_of s a b in
    only_if-alike (may && (length one == 0)) (may && (length other == 0)) (Some (holding.Spare a ∷ [])) (Some (holding.Spare a ∷ []))
    (empty-same may one other same) (λ f. refl)
changed-alike s one other (event.Own a b l p u) same = only_if-alike (ltb 0 l && ltb l 257) (ltb 0 l && ltb l 257) (becomes (holding.Spare a) (holding.Loan a 0 l ∷ []) one) (becomes (holding.Spare a) (holding.Loan a 0 l ∷ []) other) refl (becomes-alike (holding.Spare a) (holding.Loan a 0 l ∷ []) one other same)
changed-alike s one other (event.Shut b p) same = becomes-alike holding.Own [] one other same
changed-alike s one other (event.Scrub a b p u) same =
    only_if-alike (list_any (is_same (holding.Owed a)) one) (list_any (is_same (holding.Owed a)) other)
    (Some (filter (λ h. not (is_same (holding.Owed a) h)) one)) (Some (filter (λ h. not (is_same (holding.Owed a) h)) other))
    (any-same (is_same (holding.Owed a)) one other same) (filter-same (λ h. not (is_same (holding.Owed a) h)) one other same)

pool-same : (one other : List Holding) (p : ℕ) → SameHolders one other → is_pool_count one p ≡ is_pool_count other p
pool-same one other p same = ap (λ n. n == p) (length-same one other same)

user-same : (one other : List Holding) (a u : ℕ) → SameHolders one other → is_user_count one a u ≡ is_user_count other a u
user-same one other a u same = ap (λ n. n == u) (count-same (is_user a) one other same)

both-same : (one other : List Holding) (p a u : ℕ) → SameHolders one other
    → (is_pool_count one p && is_user_count one a u) ≡ (is_pool_count other p && is_user_count other a u)
both-same one other p a u same =
    ap (λ b. b && is_user_count one a u) (pool-same one other p same) ∙ ap (λ b. is_pool_count other p && b) (user-same one other a u same)

pub counts-same : (one other : List Holding) (e : Event) → SameHolders one other → has_counts one e ≡ has_counts other e
counts-same one other (event.Take b p) same = pool-same one other p same
counts-same one other (event.Place b o l p) same = pool-same one other p same
counts-same one other (event.Sent a b o l) same = refl
counts-same one other (event.Held a b o l) same = refl
counts-same one other (event.Cut a b o l m p) same = pool-same one other p same
counts-same one other (event.Lend a b o l p u) same = both-same one other p a u same
counts-same one other (event.Back a b o l u) same = user-same one other a u same
counts-same one other (event.Honour a b p u) same = both-same one other p a u same
counts-same one other (event.Stray a) same = refl
counts-same one other (event.Free a b o l p) same = pool-same one other p same
counts-same one other (event.Spare a b p) same = pool-same one other p same
counts-same one other (event.Own a b l p u) same = both-same one other p a u same
counts-same one other (event.Shut b p) same = pool-same one other p same
counts-same one other (event.Scrub a b p u) same = both-same one other p a u same

-- ---- the holders of all buffers

abbrev pub AllAlike : Option Holdings → Option Holdings → Type 0
AllAlike None None = Unit {0}
AllAlike (Some one) (Some other) = SameHoldings one other
AllAlike one other = ⊥

with_holders-same : (one other : Holdings) (b : ℕ) (held others : List Holding) → SameHoldings one other → SameHolders held others
    → SameHoldings (with_holders one b held) (with_holders other b others)
with_holders-same one other b held others same here = λ k. ⊎_elim
    (λ (yes : eqb k b ≡ true). rw yes here)
    (λ (no : eqb k b ≡ false). rw no (same k))
    (cases_Bool (eqb k b))

-- the holders of all buffers where those of one become these, if their counts are right
abbrev joined : Holdings → Event → ℕ → Option (List Holding) → Option Holdings
joined holdings e b becoming = option_map (with_holders holdings b) (option_and_then (λ now. only_if (has_counts now e) (Some now)) becoming)

joined-alike : (one other : Holdings) (e : Event) (b : ℕ) (now later : Option (List Holding)) → SameHoldings one other → AreAlike now later
    → AllAlike (joined one e b now) (joined other e b later)
joined-alike one other e b None None same alike = tt
joined-alike one other e b None (Some later) same alike = absurd alike
joined-alike one other e b (Some now) None same alike = absurd alike
joined-alike one other e b (Some now) (Some later) same alike =
    let counts : has_counts now e ≡ has_counts later e = counts-same now later e alike in
    ⊎_elim
    (λ (yes : has_counts later e ≡ true). rw (counts ∙ yes, yes) (with_holders-same one other b now later same alike))
    (λ (no : has_counts later e ≡ false). rw (counts ∙ no, no) tt)
    (cases_Bool (has_counts later e))

at-alike : (s : Setting) (one other : Holdings) (e : Event) (at : Option ℕ) → SameHoldings one other → AllAlike (after_at s one e at) (after_at s other e at)
at-alike s one other e None same = same
at-alike s one other e (Some b) same =
    joined-alike one other e b (changed s (one b) e) (changed s (other b) e) same (changed-alike s (one b) (other b) e (same b))

pub after-alike : (s : Setting) (one other : Holdings) (e : Event) → SameHoldings one other → AllAlike (after s one e) (after s other e)
unfolding after
after-alike s one other e same = ⊎_elim
    (λ (yes : is_in_range s e ≡ true). rw yes (at-alike s one other e (buffer_of_event e) same))
    (λ (no : is_in_range s e ≡ false). rw no tt)
    (cases_Bool (is_in_range s e))

-- the same holders are found after it, or none
pub after_some : (s : Setting) (one other later : Holdings) (e : Event) → SameHoldings one other → after s other e ≡ Some later
    → (now : Holdings) × (after s one e ≡ Some now) × SameHoldings now later
after_some s one other later e same is = go (after s one e) refl (subst (AllAlike (after s one e)) is (after-alike s one other e same))
  where
    go : (found : Option Holdings) → after s one e ≡ found → AllAlike found (Some later) → (now : Holdings) × (after s one e ≡ Some now) × SameHoldings now later
    go None at alike = absurd alike
    go (Some now) at alike = (now, at, alike)

pub after_none : (s : Setting) (one other : Holdings) (e : Event) → SameHoldings one other → after s other e ≡ None → after s one e ≡ None
after_none s one other e same is = go (after s one e) refl (subst (AllAlike (after s one e)) is (after-alike s one other e same))
  where
    go : (found : Option Holdings) → after s one e ≡ found → AllAlike found None → after s one e ≡ None
    go None at alike = at
    go (Some now) at alike = absurd alike

-- ---- an event adds one holder at most

becomes-length : (old : Holding) (these held later : List Holding) → becomes old these held ≡ Some later → length later + 1 ≡ length held + length these
becomes-length old these held later is = ⊎_elim
    (λ (some : list_any (is_same old) held ≡ true).
    let found = some_becomes old these held some in
    let same : Some found.0 ≡ Some later = sym found.1 ∙ is in
    let equal : found.0 ≡ later = cc in
    let sizes : length found.0 ≡ length later = ap length equal in
    omega (arith, found.2 (λ h. 1), weight-length found.0, weight-length held, weight-length these, sizes))
    (λ (none : list_any (is_same old) held ≡ false).
    let nothing : None ≡ Some later = sym (none_becomes old these held none) ∙ is in cc)
    (cases_Bool (list_any (is_same old) held))

some_of : (test : Bool) (value : Option (List Holding)) (later : List Holding) → only_if test value ≡ Some later → value ≡ Some later
some_of true value later is = is
some_of false value later is = cc

filter-length : (p : Holding → Bool) (held : List Holding) → length (filter p held) ≤ length held
filter-length p [] = omega arith
filter-length p (h ∷ held) = ⊎_elim
    (λ (yes : p h ≡ true). rw yes (omega (arith, filter-length p held)))
    (λ (no : p h ≡ false). rw no (omega (arith, filter-length p held)))
    (cases_Bool (p h))

same_lengths : (one other : List Holding) → Some one ≡ Some other → length one ≡ length other
same_lengths one other is = let equal : one ≡ other = cc in ap length equal

changed-few : (s : Setting) (held : List Holding) (e : Event) (later : List Holding) → changed s held e ≡ Some later → length later ≤ length held + 1
changed-few s held (event.Take b p) later is =
    omega (arith, same_lengths (holding.Own ∷ []) later (some_of (is_pool_buffer s b && (length held == 0)) (Some (holding.Own ∷ [])) later is))
changed-few s held (event.Place b o l p) later is =
    omega (arith, same_lengths (held ++ holding.Piece o l ∷ []) later (some_of (can_place held o l) (Some (held ++ holding.Piece o l ∷ [])) later is), length-append held (holding.Piece o l ∷ []))
changed-few s held (event.Sent a b o l) later is = omega (arith, becomes-length (holding.Piece o l) (holding.Sent a o l ∷ []) held later is)
changed-few s held (event.Held a b o l) later is = omega (arith, becomes-length (holding.Sent a o l) (holding.Held a o l ∷ []) held later is)
changed-few s held (event.Cut a b o l m p) later is = omega (arith, becomes-length (holding.Held a o l) (holding.Held a o m ∷ holding.Held a (o + m) (l - m) ∷ []) held later (some_of (ltb 0 m && ltb m l) (becomes (holding.Held a o l) (holding.Held a o m ∷ holding.Held a (o + m) (l - m) ∷ []) held) later is))
changed-few s held (event.Lend a b o l p u) later is = omega (arith, becomes-length (holding.Held a o l) (holding.Loan a o l ∷ []) held later is)
changed-few s held (event.Back a b o l u) later is = omega (arith, becomes-length (holding.Loan a o l) (holding.Owed a ∷ []) held later is)
changed-few s held (event.Honour a b p u) later is = omega (arith, becomes-length (holding.Owed a) [] held later is)
changed-few s held (event.Stray a) later is = omega (arith, same_lengths held later is)
changed-few s held (event.Free a b o l p) later is = omega (arith, becomes-length (holding.Held a o l) [] held later is)
changed-few s held (event.Spare a b p) later is =
    omega (arith, same_lengths (holding.Spare a ∷ []) later (some_of ((is_pool_buffer s b || is_reserve_of s a b) && (length held == 0)) (Some (holding.Spare a ∷ [])) later is))
changed-few s held (event.Own a b l p u) later is = omega (arith, becomes-length (holding.Spare a) (holding.Loan a 0 l ∷ []) held later (some_of (ltb 0 l && ltb l 257) (becomes (holding.Spare a) (holding.Loan a 0 l ∷ []) held) later is))
changed-few s held (event.Shut b p) later is = omega (arith, becomes-length holding.Own [] held later is)
changed-few s held (event.Scrub a b p u) later is =
    omega (
      arith,
      same_lengths (filter (λ h. not (is_same (holding.Owed a) h)) held) later
          (some_of (list_any (is_same (holding.Owed a)) held) (Some (filter (λ h. not (is_same (holding.Owed a) h)) held)) later is),
      filter-length (λ h. not (is_same (holding.Owed a) h)) held,
    )

joined-few : (s : Setting) (holdings : Holdings) (e : Event) (b : ℕ) (becoming : Option (List Holding)) → changed s (holdings b) e ≡ becoming
    → (later : Holdings) → joined holdings e b becoming ≡ Some later → (k : ℕ) → length (later k) ≤ length (holdings k) + 1
joined-few s holdings e b None at later is k = cc
joined-few s holdings e b (Some now) at later is k = ⊎_elim
    (λ (yes : has_counts now e ≡ true).
    let same : Some (with_holders holdings b now) ≡ Some later = rw yes at is in
    let equal : with_holders holdings b now ≡ later = cc in
    let here : with_holders holdings b now k ≡ later k = ap (λ h. h k) equal in
    ⊎_elim
    (λ (self : eqb k b ≡ true).
    let found : now ≡ later k = rw self at here in
    let place : k ≡ b = eqb-true k b self in
    let old : length (holdings k) ≡ length (holdings b) = ap (λ n. length (holdings n)) place in
    omega (arith, ap length found, old, changed-few s (holdings b) e now at))
    (λ (other : eqb k b ≡ false).
    let found : holdings k ≡ later k = rw other at here in
    omega (arith, ap length found))
    (cases_Bool (eqb k b)))
    (λ (no : has_counts now e ≡ false). let none : None ≡ Some later = rw no at is in cc)
    (cases_Bool (has_counts now e))

at-few : (s : Setting) (holdings : Holdings) (e : Event) (at : Option ℕ) (later : Holdings) → after_at s holdings e at ≡ Some later
    → (k : ℕ) → length (later k) ≤ length (holdings k) + 1
at-few s holdings e None later is k =
    let equal : holdings ≡ later = cc in
    omega (arith, ap (λ h. length (h k)) equal)
at-few s holdings e (Some b) later is k = joined-few s holdings e b (changed s (holdings b) e) refl later is k

pub after-few : (s : Setting) (holdings : Holdings) (e : Event) (later : Holdings) → after s holdings e ≡ Some later
    → (k : ℕ) → length (later k) ≤ length (holdings k) + 1
unfolding after
after-few s holdings e later is k = ⊎_elim
    (λ (yes : is_in_range s e ≡ true). at-few s holdings e (buffer_of_event e) later (rw yes at is) k)
    (λ (no : is_in_range s e ≡ false). let none : None ≡ Some later = rw no at is in cc)
    (cases_Bool (is_in_range s e))
