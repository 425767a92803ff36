-- The places of a buffer: which are there, what overlaps, and what the map has once one is put in or taken out.
use Rattle.std.proofs.Common.{◌≡◌, ◌∙◌, ℕ, ◌+◌, ◌++◌, ◌<◌, ◌≤◌, List, [], ◌∷◌, leb, ltb, eqb, filter, Bool, true, false, ◌||◌, ◌&&◌, ◌⊎◌, refl, sym, ap, subst}
use Rattle.std.{proofs.Common.{⊎_elim, inl, inr, arith, Some, None}, specs.{Ordering.{nat_cmp}, declared.cmp.Ordering.TheVariants.{Less, Equal, Greater}}}
use Rattle.std.specs.{Map.{lookup, remove_entry}, BTreeMap.{insert_entry, is_at, Range.{range_contains}}, declared.ops.Bound.TheVariants.{Excluded, Unbounded}}
use Rattle.std.{specs.List.{list_any, list_all}, proofs.lemmas.Bool.Decides.{nat_tests}}
use Rattle.std.proofs.lemmas.Bool.{cases_Bool, cases_lt, cases_eq, eq-eqb, ne_eqb, le-leb, lt-leb, leb-true, lt-ltb, le-ltb, and_parts}
use Rattle.zr_kinds.specs.{declared.holding.Holding.{Holding}, Holders.{is_apart, is_same}}
use Rattle.run_check.specs.{declared.places.{Hand.{Hand}, OwnedPlace.{OwnedPlace}}, Holding.{weight}, Places.{ArePlacesApart, all_placed, held_by, is_same_hand}}
use Rattle.run_check.specs.Places.{placed_holding}
use Rattle.run_check.specs.declared.places.Hand.TheVariants as hand

-- ---- two places

third : (x y : Bool) → (x && false && y) ≡ false
third true y = refl
third false y = refl

pub same_offset : (h g : Hand) (o l p m : ℕ) → (o ≡ p → ⊥) → is_same (held_by h o l) (held_by g p m) ≡ false
same_offset hand.Card hand.Card o l p m other = rw (ne_eqb o p other) refl
same_offset hand.Card (hand.Sent b) o l p m other = refl
same_offset hand.Card (hand.App b) o l p m other = refl
same_offset hand.Card (hand.Loan b) o l p m other = refl
same_offset (hand.Sent a) hand.Card o l p m other = refl
same_offset (hand.Sent a) (hand.Sent b) o l p m other = rw (ne_eqb o p other) (third (eqb a b) (eqb l m))
same_offset (hand.Sent a) (hand.App b) o l p m other = refl
same_offset (hand.Sent a) (hand.Loan b) o l p m other = refl
same_offset (hand.App a) hand.Card o l p m other = refl
same_offset (hand.App a) (hand.Sent b) o l p m other = refl
same_offset (hand.App a) (hand.App b) o l p m other = rw (ne_eqb o p other) (third (eqb a b) (eqb l m))
same_offset (hand.App a) (hand.Loan b) o l p m other = refl
same_offset (hand.Loan a) hand.Card o l p m other = refl
same_offset (hand.Loan a) (hand.Sent b) o l p m other = refl
same_offset (hand.Loan a) (hand.App b) o l p m other = refl
same_offset (hand.Loan a) (hand.Loan b) o l p m other = rw (ne_eqb o p other) (third (eqb a b) (eqb l m))

none : (b : Bool) → (b && false) ≡ false
none true = refl
none false = refl

both : (x y : Bool) → (x && y) ≡ (y && true && x)
both true true = refl
both true false = refl
both false true = refl
both false false = refl

flip : (a b : ℕ) → eqb a b ≡ eqb b a
flip a b = grind (arith, nat_tests)

same_at : (h g : Hand) (o l m : ℕ) → (eqb m l && is_same_hand g h) ≡ is_same (held_by h o l) (held_by g o m)
same_at hand.Card hand.Card o l m = rw (eq-eqb o o refl, flip m l) (plain (eqb l m))
  where
    plain : (b : Bool) → (b && true) ≡ (true && b)
    plain true = refl
    plain false = refl
same_at hand.Card (hand.Sent b) o l m = none (eqb m l)
same_at hand.Card (hand.App b) o l m = none (eqb m l)
same_at hand.Card (hand.Loan b) o l m = none (eqb m l)
same_at (hand.Sent a) hand.Card o l m = none (eqb m l)
same_at (hand.Sent a) (hand.Sent b) o l m = rw (eq-eqb o o refl, flip m l, flip b a) (both (eqb l m) (eqb a b))
same_at (hand.Sent a) (hand.App b) o l m = none (eqb m l)
same_at (hand.Sent a) (hand.Loan b) o l m = none (eqb m l)
same_at (hand.App a) hand.Card o l m = none (eqb m l)
same_at (hand.App a) (hand.Sent b) o l m = none (eqb m l)
same_at (hand.App a) (hand.App b) o l m = rw (eq-eqb o o refl, flip m l, flip b a) (both (eqb l m) (eqb a b))
same_at (hand.App a) (hand.Loan b) o l m = none (eqb m l)
same_at (hand.Loan a) hand.Card o l m = none (eqb m l)
same_at (hand.Loan a) (hand.Sent b) o l m = none (eqb m l)
same_at (hand.Loan a) (hand.App b) o l m = none (eqb m l)
same_at (hand.Loan a) (hand.Loan b) o l m = rw (eq-eqb o o refl, flip m l, flip b a) (both (eqb l m) (eqb a b))

pub place_is : (o : ℕ) (found place : OwnedPlace) → (eqb found.len place.len && is_same_hand found.hand place.hand) ≡ is_same (placed_holding (o, place)) (placed_holding (o, found))
place_is o found place = same_at place.hand found.hand o place.len found.len

pub apart_is : (h : Hand) (o l p m : ℕ) → is_apart o l (held_by h p m) ≡ (leb (o + l) p || leb (p + m) o)
apart_is hand.Card o l p m = refl
apart_is (hand.Sent a) o l p m = refl
apart_is (hand.App a) o l p m = refl
apart_is (hand.Loan a) o l p m = refl

apart_before : (h : Hand) (o l p m : ℕ) → o + l ≤ p → is_apart o l (held_by h p m) ≡ true
apart_before h o l p m before = apart_is h o l p m ∙ rw (le-leb (o + l) p before) refl

apart_behind : (h : Hand) (o l p m : ℕ) → p + m ≤ o → is_apart o l (held_by h p m) ≡ true
apart_behind h o l p m behind = apart_is h o l p m ∙ rw (le-leb (p + m) o behind) (second (leb (o + l) p))
  where
    second : (b : Bool) → (b || true) ≡ true
    second true = refl
    second false = refl

apart_cases : (h : Hand) (o l p m : ℕ) → is_apart o l (held_by h p m) ≡ true → (o + l ≤ p) ⊎ (p + m ≤ o)
apart_cases h o l p m apart = ⊎_elim
    (λ (yes : leb (o + l) p ≡ true). inl (leb-true (o + l) p yes))
    (λ (no : leb (o + l) p ≡ false).
    let sum : (leb (o + l) p || leb (p + m) o) ≡ true = sym (apart_is h o l p m) ∙ apart in
    inr (leb-true (p + m) o (rw no at sum)))
    (cases_Bool (leb (o + l) p))

-- ---- what stands at an offset

at_same : (k n : ℕ) → k ≡ n → is_at (nat_cmp k) n ≡ true
at_same k n same = grind (arith, nat_tests)

at_other : (k n : ℕ) → (k ≡ n → ⊥) → is_at (nat_cmp k) n ≡ false
at_other k n other = grind (arith, nat_tests)

-- the first is at the offset, or what is found is among the others
found_cases : (k : ℕ) (e : ℕ × OwnedPlace) (es : List (ℕ × OwnedPlace)) (q : OwnedPlace) → lookup (is_at (nat_cmp k)) (e ∷ es) ≡ Some q
    → ((k ≡ e.0) × (e.1 ≡ q)) ⊎ ((k ≡ e.0 → ⊥) × (lookup (is_at (nat_cmp k)) es ≡ Some q))
found_cases k e es q found = ⊎_elim
    (λ (same : k ≡ e.0). let here : Some e.1 ≡ Some q = rw (at_same k e.0 same) at found in let equal : e.1 ≡ q = cc in inl (same, equal))
    (λ (other : k ≡ e.0 → ⊥). inr (other, rw (at_other k e.0 other) at found))
    (cases_eq k e.0)

found_from : (from k : ℕ) (es : List (ℕ × OwnedPlace)) (q : OwnedPlace) → ArePlacesApart from es → lookup (is_at (nat_cmp k)) es ≡ Some q → from ≤ k
found_from from k [] q apart found = cc
found_from from k (e ∷ es) q apart found = ⊎_elim
    (λ (same, is). omega (arith, apart.0, same))
    (λ (other, later). omega (arith, apart.0, found_from (e.0 + e.1.len) k es q apart.2 later))
    (found_cases k e es q found)

pub found_some : (from k : ℕ) (es : List (ℕ × OwnedPlace)) (q : OwnedPlace) → ArePlacesApart from es → lookup (is_at (nat_cmp k)) es ≡ Some q → 0 < q.len
found_some from k [] q apart found = cc
found_some from k (e ∷ es) q apart found = ⊎_elim
    (λ (same, is). subst (λ (x : OwnedPlace). 0 < x.len) is apart.1)
    (λ (other, later). found_some (e.0 + e.1.len) k es q apart.2 later)
    (found_cases k e es q found)

none_below : (from k l : ℕ) (h : Hand) (es : List (ℕ × OwnedPlace)) → ArePlacesApart from es → k < from
    → list_any (is_same (held_by h k l)) (all_placed es) ≡ false
none_below from k l h [] apart below = refl
none_below from k l h (e ∷ es) apart below =
    let begins : from ≤ e.0 = apart.0 in
    rw (same_offset h e.1.hand k l e.0 e.1.len (λ same. omega arith)) (none_below (e.0 + e.1.len) k l h es apart.2 (omega arith))

pub none_there : (k l : ℕ) (h : Hand) (es : List (ℕ × OwnedPlace)) → lookup (is_at (nat_cmp k)) es ≡ None → list_any (is_same (held_by h k l)) (all_placed es) ≡ false
none_there k l h [] none = refl
none_there k l h (e ∷ es) none = ⊎_elim
    (λ (same : k ≡ e.0). let some : Some e.1 ≡ None = rw (at_same k e.0 same) at none in cc)
    (λ (other : k ≡ e.0 → ⊥). rw (same_offset h e.1.hand k l e.0 e.1.len other) (none_there k l h es (rw (at_other k e.0 other) at none)))
    (cases_eq k e.0)

pub one_there : (from k l : ℕ) (h : Hand) (es : List (ℕ × OwnedPlace)) (q : OwnedPlace) → ArePlacesApart from es → lookup (is_at (nat_cmp k)) es ≡ Some q
    → list_any (is_same (held_by h k l)) (all_placed es) ≡ is_same (held_by h k l) (placed_holding (k, q))
one_there from k l h [] q apart found = cc
one_there from k l h (e ∷ es) q apart found = ⊎_elim
    (λ (same, is).
    let some : 0 < e.1.len = apart.1 in
    let rest : list_any (is_same (held_by h k l)) (all_placed es) ≡ false =
    none_below (e.0 + e.1.len) k l h es apart.2 (omega (arith, some, same)) in
    let place : placed_holding e ≡ placed_holding (k, q) = ap (λ n. placed_holding (n, e.1)) (sym same) ∙ ap (λ p. placed_holding (k, p)) is in
    rw (rest, place) (alone (is_same (held_by h k l) (placed_holding (k, q)))))
    (λ (other, later). rw (same_offset h e.1.hand k l e.0 e.1.len other) (one_there (e.0 + e.1.len) k l h es q apart.2 later))
    (found_cases k e es q found)
  where
    alone : (b : Bool) → (b || false) ≡ b
    alone true = refl
    alone false = refl

-- ---- what overlaps

pub all_behind : (from o l : ℕ) (es : List (ℕ × OwnedPlace)) → ArePlacesApart from es → o + l ≤ from → list_all (is_apart o l) (all_placed es) ≡ true
all_behind from o l [] apart ends = refl
all_behind from o l (e ∷ es) apart ends =
    let begins : from ≤ e.0 = apart.0 in
    rw (apart_before e.1.hand o l e.0 e.1.len (omega arith)) (all_behind (e.0 + e.1.len) o l es apart.2 (omega arith))

not_nil : {A : Type 0} (before : List A) (last : A) → [] ≡ before ++ last ∷ [] → ⊥
not_nil [] last e = cc
not_nil (x ∷ before) last e = cc

-- the last of a list that isn't empty is its first, or the last of the others
cases_front : {A : Type 0} (x : A) (xs before : List A) (last : A) → x ∷ xs ≡ before ++ last ∷ [] → ((x ≡ last) × (xs ≡ []))
    ⊎ ((rest : List A) × (xs ≡ rest ++ last ∷ []))
cases_front x xs [] last e = let first : x ≡ last = cc in let rest : xs ≡ [] = cc in inl (first, rest)
cases_front x xs (y ∷ before) last e = let rest : xs ≡ before ++ last ∷ [] = cc in inr (before, rest)

begins_before : (end n : ℕ) → range_contains nat_cmp Unbounded (Excluded end) n ≡ ltb n end
begins_before end n = grind (arith, nat_tests)

-- what begins before an offset
abbrev begun : ℕ → List (ℕ × OwnedPlace) → List (ℕ × OwnedPlace)
begun end es = filter (λ e. range_contains nat_cmp Unbounded (Excluded end) e.0) es

pub none_begun : (o l : ℕ) (es : List (ℕ × OwnedPlace)) → begun (o + l) es ≡ [] → list_all (is_apart o l) (all_placed es) ≡ true
none_begun o l [] none = refl
none_begun o l (e ∷ es) none = ⊎_elim
    (λ (before : e.0 < o + l).
    let test : range_contains nat_cmp Unbounded (Excluded (o + l)) e.0 ≡ true = begins_before (o + l) e.0 ∙ lt-ltb e.0 (o + l) before in
    let some : e ∷ begun (o + l) es ≡ [] = rw test at none in cc)
    (λ (behind : o + l ≤ e.0).
    let test : range_contains nat_cmp Unbounded (Excluded (o + l)) e.0 ≡ false = begins_before (o + l) e.0 ∙ le-ltb e.0 (o + l) behind in
    rw (apart_before e.1.hand o l e.0 e.1.len behind) (none_begun o l es (rw test at none)))
    (cases_lt e.0 (o + l))

last_from : (from end : ℕ) (es before : List (ℕ × OwnedPlace)) (last : ℕ × OwnedPlace) → ArePlacesApart from es → begun end es ≡ before ++ last ∷ []
    → from ≤ last.0
last_from from end [] before last apart found = absurd (not_nil before last found)
last_from from end (e ∷ es) before last apart found = ⊎_elim
    (λ (test : range_contains nat_cmp Unbounded (Excluded end) e.0 ≡ true). ⊎_elim
    (λ (one, none). subst (λ (x : ℕ × OwnedPlace). from ≤ x.0) one apart.0)
    (λ (rest, same). omega (arith, apart.0, last_from (e.0 + e.1.len) end es rest last apart.2 same))
    (cases_front e (begun end es) before last (rw test at found)))
    (λ (test : range_contains nat_cmp Unbounded (Excluded end) e.0 ≡ false).
    omega (arith, apart.0, last_from (e.0 + e.1.len) end es before last apart.2 (rw test at found)))
    (cases_Bool (range_contains nat_cmp Unbounded (Excluded end) e.0))

-- the last of these alone decides
pub last_begun : (from o l : ℕ) (es before : List (ℕ × OwnedPlace)) (last : ℕ × OwnedPlace) → ArePlacesApart from es → begun (o + l) es ≡ before ++ last ∷ []
    → list_all (is_apart o l) (all_placed es) ≡ leb (last.0 + last.1.len) o
last_begun from o l [] before last apart found = absurd (not_nil before last found)
last_begun from o l (e ∷ es) before last apart found = ⊎_elim
    (λ (first : e.0 < o + l).
    let test : range_contains nat_cmp Unbounded (Excluded (o + l)) e.0 ≡ true = begins_before (o + l) e.0 ∙ lt-ltb e.0 (o + l) first in
    ⊎_elim
    (λ (one, none).
    let rest : list_all (is_apart o l) (all_placed es) ≡ true = none_begun o l es none in
    let same : leb (e.0 + e.1.len) o ≡ leb (last.0 + last.1.len) o = ap (λ (x : ℕ × OwnedPlace). leb (x.0 + x.1.len) o) one in
    rw (apart_is e.1.hand o l e.0 e.1.len, lt-leb (o + l) e.0 first, rest) (alone (leb (e.0 + e.1.len) o) ∙ same))
    (λ (others, same).
    let rest : list_all (is_apart o l) (all_placed es) ≡ leb (last.0 + last.1.len) o =
    last_begun (e.0 + e.1.len) o l es others last apart.2 same in
    let above : e.0 + e.1.len ≤ last.0 = last_from (e.0 + e.1.len) (o + l) es others last apart.2 same in
    ⊎_elim
    (λ (ends : last.0 + last.1.len ≤ o).
    rw (rest, apart_behind e.1.hand o l e.0 e.1.len (omega arith)) refl)
    (λ (overlaps : o < last.0 + last.1.len).
    let no : leb (last.0 + last.1.len) o ≡ false = lt-leb (last.0 + last.1.len) o overlaps in
    rw (rest, no) (neither (is_apart o l (placed_holding e))))
    (cases_le (last.0 + last.1.len) o))
    (cases_front e (begun (o + l) es) before last (rw test at found)))
    (λ (behind : o + l ≤ e.0).
    let test : range_contains nat_cmp Unbounded (Excluded (o + l)) e.0 ≡ false = begins_before (o + l) e.0 ∙ le-ltb e.0 (o + l) behind in
    rw (apart_before e.1.hand o l e.0 e.1.len behind) (last_begun (e.0 + e.1.len) o l es before last apart.2 (rw test at found)))
    (cases_lt e.0 (o + l))
  where
    alone : (b : Bool) → (b && true) ≡ b
    alone true = refl
    alone false = refl

    neither : (b : Bool) → (b && false) ≡ false
    neither true = refl
    neither false = refl

    cases_le : (m n : ℕ) → (m ≤ n) ⊎ (n < m)
    cases_le m n = ⊎_elim (λ less. inr less) (λ least. inl least) (cases_lt n m)

-- ---- one more, another and one less

lower : (low from : ℕ) (es : List (ℕ × OwnedPlace)) → low ≤ from → ArePlacesApart from es → ArePlacesApart low es
lower low from [] le apart = tt
lower low from (e ∷ es) le apart = (omega (arith, apart.0), apart.1, apart.2)

cmp_less : (k n : ℕ) → k < n → nat_cmp k n ≡ Less
cmp_less k n less = grind (arith, nat_tests)

cmp_equal : (k n : ℕ) → k ≡ n → nat_cmp k n ≡ Equal
cmp_equal k n same = grind (arith, nat_tests)

cmp_greater : (k n : ℕ) → n < k → nat_cmp k n ≡ Greater
cmp_greater k n greater = grind (arith, nat_tests)

-- where an offset stands to that of the first
cases_order : (k n : ℕ) → (k < n) ⊎ ((k ≡ n) ⊎ (n < k))
cases_order k n = ⊎_elim (λ less. inl less) (λ least. ⊎_elim (λ same. inr (inl same)) (λ other. inr (inr (omega arith))) (cases_eq k n)) (cases_lt k n)

pub free_there : (o l : ℕ) (es : List (ℕ × OwnedPlace)) (from : ℕ) → ArePlacesApart from es → 0 < l → list_all (is_apart o l) (all_placed es) ≡ true
    → lookup (is_at (nat_cmp o)) es ≡ None
free_there o l [] from apart some free = refl
free_there o l (e ∷ es) from apart some free =
    let parts = and_parts (is_apart o l (placed_holding e)) (list_all (is_apart o l) (all_placed es)) free in
    let len : 0 < e.1.len = apart.1 in
    let other : o ≡ e.0 → ⊥ = λ same. ⊎_elim (λ before. omega (arith, some, same, before)) (λ behind. omega (arith, len, same, behind))
    (apart_cases e.1.hand o l e.0 e.1.len parts.0) in
    rw (at_other o e.0 other) (free_there o l es (e.0 + e.1.len) apart.2 some parts.1)

pub weight-put : (f : Holding → ℕ) (k : ℕ) (p : OwnedPlace) (es : List (ℕ × OwnedPlace)) → lookup (is_at (nat_cmp k)) es ≡ None
    → weight f (all_placed (insert_entry nat_cmp es k p)) ≡ weight f (all_placed es) + f (placed_holding (k, p))
weight-put f k p [] none = omega arith
weight-put f k p (e ∷ es) none = ⊎_elim
    (λ (less : k < e.0). rw (cmp_less k e.0 less) (omega arith))
    (λ (others : (k ≡ e.0) ⊎ (e.0 < k)). ⊎_elim
    (λ (same : k ≡ e.0). let some : Some e.1 ≡ None = rw (at_same k e.0 same) at none in cc)
    (λ (greater : e.0 < k). let other : k ≡ e.0 → ⊥ = λ same. omega arith in
    rw (cmp_greater k e.0 greater) (omega (arith, weight-put f k p es (rw (at_other k e.0 other) at none))))
    others)
    (cases_order k e.0)

pub weight-set : (f : Holding → ℕ) (from k : ℕ) (p q : OwnedPlace) (es : List (ℕ × OwnedPlace)) → ArePlacesApart from es
    → lookup (is_at (nat_cmp k)) es ≡ Some q
    → weight f (all_placed (insert_entry nat_cmp es k p)) + f (placed_holding (k, q)) ≡ weight f (all_placed es) + f (placed_holding (k, p))
weight-set f from k p q [] apart found = cc
weight-set f from k p q (e ∷ es) apart found = ⊎_elim
    (λ (same, is).
    let old : f (placed_holding e) ≡ f (placed_holding (k, q)) = ap (λ n. f (placed_holding (n, e.1))) (sym same) ∙ ap (λ x. f (placed_holding (k, x))) is in
    let new : f (placed_holding (e.0, p)) ≡ f (placed_holding (k, p)) = ap (λ n. f (placed_holding (n, p))) (sym same) in
    rw (cmp_equal k e.0 same) (omega (arith, old, new)))
    (λ (other, later).
    let above : e.0 + e.1.len ≤ k = found_from (e.0 + e.1.len) k es q apart.2 later in
    let greater : e.0 < k = omega (arith, above, other) in
    rw (cmp_greater k e.0 greater) (omega (arith, weight-set f (e.0 + e.1.len) k p q es apart.2 later)))
    (found_cases k e es q found)

pub weight-take : (f : Holding → ℕ) (k : ℕ) (q : OwnedPlace) (es : List (ℕ × OwnedPlace)) → lookup (is_at (nat_cmp k)) es ≡ Some q
    → weight f (all_placed (remove_entry (is_at (nat_cmp k)) es)) + f (placed_holding (k, q)) ≡ weight f (all_placed es)
weight-take f k q [] found = cc
weight-take f k q (e ∷ es) found = ⊎_elim
    (λ (same, is).
    let old : f (placed_holding e) ≡ f (placed_holding (k, q)) = ap (λ n. f (placed_holding (n, e.1))) (sym same) ∙ ap (λ x. f (placed_holding (k, x))) is in
    rw (at_same k e.0 same) (omega (arith, old)))
    (λ (other, later). rw (at_other k e.0 other) (omega (arith, weight-take f k q es later)))
    (found_cases k e es q found)

pub apart-put : (from k : ℕ) (p : OwnedPlace) (es : List (ℕ × OwnedPlace)) → ArePlacesApart from es → from ≤ k → 0 < p.len
    → list_all (is_apart k p.len) (all_placed es) ≡ true → ArePlacesApart from (insert_entry nat_cmp es k p)
apart-put from k p [] apart begins some free = (begins, some, tt)
apart-put from k p (e ∷ es) apart begins some free =
    let parts = and_parts (is_apart k p.len (placed_holding e)) (list_all (is_apart k p.len) (all_placed es)) free in
    let len : 0 < e.1.len = apart.1 in
    ⊎_elim
    (λ (before : k + p.len ≤ e.0).
    rw (cmp_less k e.0 (omega (arith, some, before))) (begins, some, (before, apart.1, apart.2)))
    (λ (behind : e.0 + e.1.len ≤ k).
    rw (cmp_greater k e.0 (omega (arith, len, behind)))
    (apart.0, apart.1, apart-put (e.0 + e.1.len) k p es apart.2 behind some parts.1))
    (apart_cases e.1.hand k p.len e.0 e.1.len parts.0)

pub apart-set : (from k : ℕ) (p q : OwnedPlace) (es : List (ℕ × OwnedPlace)) → ArePlacesApart from es → lookup (is_at (nat_cmp k)) es ≡ Some q → 0 < p.len
    → p.len ≤ q.len → ArePlacesApart from (insert_entry nat_cmp es k p)
apart-set from k p q [] apart found some shorter = cc
apart-set from k p q (e ∷ es) apart found some shorter = ⊎_elim
    (λ (same, is).
    let lens : e.1.len ≡ q.len = ap (λ (x : OwnedPlace). x.len) is in
    rw (cmp_equal k e.0 same)
    (apart.0, some, lower (e.0 + p.len) (e.0 + e.1.len) es (omega (arith, lens, shorter)) apart.2))
    (λ (other, later).
    let above : e.0 + e.1.len ≤ k = found_from (e.0 + e.1.len) k es q apart.2 later in
    let greater : e.0 < k = omega (arith, above, other) in
    rw (cmp_greater k e.0 greater) (apart.0, apart.1, apart-set (e.0 + e.1.len) k p q es apart.2 later some shorter))
    (found_cases k e es q found)

pub apart-take : (from : ℕ) (test : ℕ → Bool) (es : List (ℕ × OwnedPlace)) → ArePlacesApart from es → ArePlacesApart from (remove_entry test es)
apart-take from test [] apart = tt
apart-take from test (e ∷ es) apart = ⊎_elim
    (λ (yes : test e.0 ≡ true). rw yes (lower from (e.0 + e.1.len) es (omega (arith, apart.0)) apart.2))
    (λ (no : test e.0 ≡ false). rw no (apart.0, apart.1, apart-take (e.0 + e.1.len) test es apart.2))
    (cases_Bool (test e.0))

-- behind a place that was made shorter its other bytes are free
pub rest_free : (from k m : ℕ) (p q : OwnedPlace) (es : List (ℕ × OwnedPlace)) → ArePlacesApart from es → lookup (is_at (nat_cmp k)) es ≡ Some q
    → p.len + m ≡ q.len → list_all (is_apart (k + p.len) m) (all_placed (insert_entry nat_cmp es k p)) ≡ true
rest_free from k m p q [] apart found lens = cc
rest_free from k m p q (e ∷ es) apart found lens = ⊎_elim
    (λ (same, is).
    let len : e.1.len ≡ q.len = ap (λ (x : OwnedPlace). x.len) is in
    let behind : list_all (is_apart (k + p.len) m) (all_placed es) ≡ true =
    all_behind (e.0 + e.1.len) (k + p.len) m es apart.2 (omega (arith, len, lens, same)) in
    rw (cmp_equal k e.0 same) (rw (apart_behind p.hand (k + p.len) m e.0 p.len (omega (arith, same)), behind) refl))
    (λ (other, later).
    let above : e.0 + e.1.len ≤ k = found_from (e.0 + e.1.len) k es q apart.2 later in
    let greater : e.0 < k = omega (arith, above, other) in
    rw (cmp_greater k e.0 greater)
    (rw (apart_behind e.1.hand (k + p.len) m e.0 e.1.len (omega (arith, above))) (rest_free (e.0 + e.1.len) k m p q es apart.2 later lens)))
    (found_cases k e es q found)
