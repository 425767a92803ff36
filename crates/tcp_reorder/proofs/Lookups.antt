-- What a look-up by position finds among the entries of the map.
use Rattle.std.proofs.Common.{◌≡◌, ℕ, ◌+◌, ◌<◌, ◌≤◌, List, [], ◌∷◌, ◌++◌, nat_le, filter, Bool, true, false, ◌⊎◌, refl, sym, ◌∙◌, subst, ⊎_elim, inl, inr, arith}
use Rattle.std.specs.{Ordering.{nat_cmp}, BTreeMap.Range.{range_contains}, declared.ops.Bound.TheVariants.{Included, Unbounded}}
use Rattle.std.proofs.lemmas.Bool.{Decides.{nat_tests}, or_from, or_left, or_right, or_parts, leb-true, leb-false, cases_lt, cases_Bool, both_ways}
use Rattle.tcp_reorder.specs.{declared.piece.KeptPiece.{KeptPiece}, Queue.{end_of, covers, is_kept, AreApart, EndWithin}, Pieces.{kept_piece_of, all_kept}}
use Rattle.tcp_reorder.proofs.Positions.{covers-within, covers-before, covers-behind, is_kept-below}

not_nil : {A : Type 0} (before : List A) (last : A) → [] ≡ before ++ last ∷ [] → ⊥
not_nil [] last e = cc
not_nil (x ∷ before) last e = cc

-- the last of a list that isn't empty is its first, or the last of the others
cases_front : {A : Type 0} (x : A) (xs before : List A) (last : A) → x ∷ xs ≡ before ++ last ∷ [] → ((x ≡ last) × (xs ≡ []))
    ⊎ ((rest : List A) × (xs ≡ rest ++ last ∷ []))
cases_front x xs [] last e = let first : x ≡ last = cc in let rest : xs ≡ [] = cc in inl (first, rest)
cases_front x xs (y ∷ before) last e = let rest : xs ≡ before ++ last ∷ [] = cc in inr (before, rest)

-- ---- the last entry at a position or before it

module _ (p : ℕ) (until : ℕ → Bool) (says : (q : ℕ) → until q ≡ nat_le q p) where
  until_true : (q : ℕ) → until q ≡ true → q ≤ p
  until_true q test = leb-true q p (sym (says q) ∙ test)

  until_false : (q : ℕ) → until q ≡ false → p < q
  until_false q test = leb-false q p (sym (says q) ∙ test)

module _ {H : Type 0} (p : ℕ) (until : ℕ → Bool) (says : (q : ℕ) → until q ≡ nat_le q p) where
  -- what begins at p or before it
  abbrev begun : List (ℕ × KeptPiece H) → List (ℕ × KeptPiece H)
  begun es = filter (λ e. until e.0) es

  pub none_begun : (es : List (ℕ × KeptPiece H)) → begun es ≡ [] → is_kept (all_kept es) p ≡ false
  none_begun [] none = refl
  none_begun (e ∷ es) none = ⊎_elim
      (λ (test : until e.0 ≡ true). let some : e ∷ begun es ≡ [] = rw test at none in cc)
      (λ (test : until e.0 ≡ false). let rest : begun es ≡ [] = rw test at none in
      or_from _ _ (covers-before (kept_piece_of e) p (until_false p until says e.0 test)) (none_begun es rest))
      (cases_Bool (until e.0))

  last_from : (from : ℕ) (es before : List (ℕ × KeptPiece H)) (last : ℕ × KeptPiece H) → AreApart from (all_kept es) → begun es ≡ before ++ last ∷ []
      → from ≤ last.0
  last_from from [] before last apart found = absurd (not_nil before last found)
  last_from from (e ∷ es) before last apart found = ⊎_elim
      (λ (test : until e.0 ≡ true). ⊎_elim
      (λ (one, none). subst (λ (x : ℕ × KeptPiece H). from ≤ x.0) one apart.0)
      (λ (rest, same). let later : end_of (kept_piece_of e) ≤ last.0 = last_from (end_of (kept_piece_of e)) es rest last apart.3 same in omega arith)
      (cases_front e (begun es) before last (rw test at found)))
      (λ (test : until e.0 ≡ false). let later : end_of (kept_piece_of e) ≤ last.0 =
      last_from (end_of (kept_piece_of e)) es before last apart.3 (rw test at found) in
      omega arith)
      (cases_Bool (until e.0))

  -- the entry is the last that begins at p or before it
  pub record IsLast (es : List (ℕ × KeptPiece H)) (last : ℕ × KeptPiece H) : Type 0 where
    pub begins : last.0 ≤ p
    pub within : (q : ℕ) → last.0 ≤ q → q < last.0 + last.1.len → is_kept (all_kept es) q ≡ true
    pub behind : last.0 + last.1.len ≤ p → is_kept (all_kept es) p ≡ false
    pub ends : (limit : ℕ) → EndWithin limit (all_kept es) → last.0 + last.1.len ≤ limit

  last_is_first : (e : ℕ × KeptPiece H) (es : List (ℕ × KeptPiece H)) → until e.0 ≡ true → begun es ≡ [] → IsLast (e ∷ es) e
  last_is_first e es test rest = record {
    begins = until_true p until says e.0 test;
    within = λ q above below. or_left (covers (kept_piece_of e) q) (is_kept (all_kept es) q) (covers-within (kept_piece_of e) q above below);
    behind = λ past. or_from (covers (kept_piece_of e) p) (is_kept (all_kept es) p) (covers-behind (kept_piece_of e) p past) (none_begun es rest);
    ends = λ limit within. within.0;
  }

  last_is_later : (e last : ℕ × KeptPiece H) (es : List (ℕ × KeptPiece H)) → covers (kept_piece_of e) p ≡ false → IsLast es last → IsLast (e ∷ es) last
  last_is_later e last es apart later = record {
    begins = later.begins;
    within = λ q above below. or_right (covers (kept_piece_of e) q) (is_kept (all_kept es) q) (later.within q above below);
    behind = λ past. or_from (covers (kept_piece_of e) p) (is_kept (all_kept es) p) apart (later.behind past);
    ends = λ limit within. later.ends limit within.1;
  }

  pub last_begun : (from : ℕ) (es before : List (ℕ × KeptPiece H)) (last : ℕ × KeptPiece H) → AreApart from (all_kept es)
      → begun es ≡ before ++ last ∷ [] → IsLast es last
  last_begun from [] before last apart found = absurd (not_nil before last found)
  last_begun from (e ∷ es) before last apart found = ⊎_elim
      (λ (test : until e.0 ≡ true). ⊎_elim
      (λ (one, none). subst (λ (x : ℕ × KeptPiece H). IsLast (e ∷ es) x) one (last_is_first e es test none))
      (λ (rest, same).
      let later : IsLast es last = last_begun (end_of (kept_piece_of e)) es rest last apart.3 same in
      let above : end_of (kept_piece_of e) ≤ last.0 = last_from (end_of (kept_piece_of e)) es rest last apart.3 same in
      let begins : last.0 ≤ p = later.begins in
      last_is_later e last es (covers-behind (kept_piece_of e) p (omega arith)) later)
      (cases_front e (begun es) before last (rw test at found)))
      (λ (test : until e.0 ≡ false). last_is_later e last es (covers-before (kept_piece_of e) p (until_false p until says e.0 test))
      (last_begun (end_of (kept_piece_of e)) es before last apart.3 (rw test at found)))
      (cases_Bool (until e.0))

-- ---- the first entry behind a free position

module _ {H : Type 0} (free : ℕ) (from : ℕ → Bool) (says : (q : ℕ) → from q ≡ nat_le free q) where
  -- what begins at the free position or behind it
  abbrev coming : List (ℕ × KeptPiece H) → List (ℕ × KeptPiece H)
  coming es = filter (λ e. from e.0) es

  passed_by : (e : ℕ × KeptPiece H) → from e.0 ≡ false → covers (kept_piece_of e) free ≡ false → end_of (kept_piece_of e) ≤ free
  passed_by e test apart = ⊎_elim
      (λ (early : free < end_of (kept_piece_of e)). let begun : e.0 < free = leb-false free e.0 (sym (says e.0) ∙ test) in
      absurd (both_ways _ apart (covers-within (kept_piece_of e) free (omega arith) early)))
      (λ behind. behind)
      (cases_lt free (end_of (kept_piece_of e)))

  pub none_coming : (es : List (ℕ × KeptPiece H)) → coming es ≡ [] → is_kept (all_kept es) free ≡ false → (q : ℕ) → free ≤ q
      → is_kept (all_kept es) q ≡ false
  none_coming [] none apart q above = refl
  none_coming (e ∷ es) none apart q above = ⊎_elim
      (λ (test : from e.0 ≡ true). let some : e ∷ coming es ≡ [] = rw test at none in cc)
      (λ (test : from e.0 ≡ false).
      let parts = or_parts (covers (kept_piece_of e) free) (is_kept (all_kept es) free) apart in
      let rest : coming es ≡ [] = rw test at none in
      let passed : end_of (kept_piece_of e) ≤ free = passed_by e test parts.0 in
      or_from (covers (kept_piece_of e) q) (is_kept (all_kept es) q) (covers-behind (kept_piece_of e) q (omega arith)) (none_coming es rest parts.1 q above))
      (cases_Bool (from e.0))

  -- behind the free position it is the first that is kept
  pub record IsNextKept (es : List (ℕ × KeptPiece H)) (next : ℕ) : Type 0 where
    pub above : free < next
    pub kept : is_kept (all_kept es) next ≡ true
    pub before : (q : ℕ) → free ≤ q → q < next → is_kept (all_kept es) q ≡ false

  pub next_coming : (low : ℕ) (es rest : List (ℕ × KeptPiece H)) (next : ℕ × KeptPiece H) → AreApart low (all_kept es) → coming es ≡ next ∷ rest
      → is_kept (all_kept es) free ≡ false → IsNextKept es next.0
  next_coming low [] rest next apart found missing = cc
  next_coming low (e ∷ es) rest next apart found missing =
      let parts = or_parts (covers (kept_piece_of e) free) (is_kept (all_kept es) free) missing in
      ⊎_elim
      (λ (test : from e.0 ≡ true).
      let here : e ∷ coming es ≡ next ∷ rest = rw test at found in
      let one : e ≡ next = cc in
      let begins : free ≤ e.0 = leb-true free e.0 (sym (says e.0) ∙ test) in
      let above : free < e.0 =
      ⊎_elim (λ h. h) (λ (h : e.0 ≤ free). absurd (both_ways _ parts.0 (covers-within (kept_piece_of e) free h (omega arith)))) (cases_lt free e.0) in
      subst (λ (x : ℕ × KeptPiece H). IsNextKept (e ∷ es) x.0) one (record {
        above = above;
        kept = or_left (covers (kept_piece_of e) e.0) (is_kept (all_kept es) e.0) (covers-within (kept_piece_of e) e.0 (omega arith) (omega arith));
        before = λ q late early. or_from (covers (kept_piece_of e) q) (is_kept (all_kept es) q) (covers-before (kept_piece_of e) q early)
            (is_kept-below (end_of (kept_piece_of e)) (all_kept es) q apart.3 (omega arith));
      }))
      (λ (test : from e.0 ≡ false).
      let passed : end_of (kept_piece_of e) ≤ free = passed_by e test parts.0 in
      let later : IsNextKept es next.0 = next_coming (end_of (kept_piece_of e)) es rest next apart.3 (rw test at found) parts.1 in
      record {
        above = later.above;
        kept = or_right (covers (kept_piece_of e) next.0) (is_kept (all_kept es) next.0) later.kept;
        before = λ q late early. or_from (covers (kept_piece_of e) q) (is_kept (all_kept es) q) (covers-behind (kept_piece_of e) q (omega arith))
            (later.before q late early);
      })
      (cases_Bool (from e.0))

-- ---- the ranges of the map

pub begins_until : (p q : ℕ) → range_contains nat_cmp Unbounded (Included p) q ≡ nat_le q p
begins_until p q = grind (arith, nat_tests)

pub begins_from : (free q : ℕ) → range_contains nat_cmp (Included free) Unbounded q ≡ nat_le free q
begins_from free q = grind (arith, nat_tests)

module _ {H : Type 0} where
  -- what `range(..=p).next_back()` finds
  pub none_until : (p : ℕ) (es : List (ℕ × KeptPiece H)) → filter (λ e. range_contains nat_cmp Unbounded (Included p) e.0) es ≡ []
      → is_kept (all_kept es) p ≡ false
  none_until p es none = none_begun p (range_contains nat_cmp Unbounded (Included p)) (begins_until p) es none

  pub last_until : (p : ℕ) (es before : List (ℕ × KeptPiece H)) (last : ℕ × KeptPiece H) → AreApart 0 (all_kept es)
      → filter (λ e. range_contains nat_cmp Unbounded (Included p) e.0) es ≡ before ++ last ∷ []
      → IsLast p (range_contains nat_cmp Unbounded (Included p)) (begins_until p) es last
  last_until p es before last apart found = last_begun p (range_contains nat_cmp Unbounded (Included p)) (begins_until p) 0 es before last apart found

  -- what `range(free..).next()` finds
  pub none_from : (free : ℕ) (es : List (ℕ × KeptPiece H)) → filter (λ e. range_contains nat_cmp (Included free) Unbounded e.0) es ≡ []
      → is_kept (all_kept es) free ≡ false → (q : ℕ) → free ≤ q → is_kept (all_kept es) q ≡ false
  none_from free es none missing = none_coming free (range_contains nat_cmp (Included free) Unbounded) (begins_from free) es none missing

  pub next_from : (free : ℕ) (es rest : List (ℕ × KeptPiece H)) (next : ℕ × KeptPiece H) → AreApart 0 (all_kept es)
      → filter (λ e. range_contains nat_cmp (Included free) Unbounded e.0) es ≡ next ∷ rest → is_kept (all_kept es) free ≡ false
      → IsNextKept free (range_contains nat_cmp (Included free) Unbounded) (begins_from free) es next.0
  next_from free es rest next apart found missing =
      next_coming free (range_contains nat_cmp (Included free) Unbounded) (begins_from free) 0 es rest next apart found missing
