-- A word of the free list is moved into the cache, the highest buffer first.
use Rattle.std.proofs.Common.{◌≡◌, ℕ, zero, suc, ◌+◌, ◌<◌, ◌≤◌, Bool, true, false, List, [], ◌∷◌, ◌++◌, length, set, refl, ap}
use Rattle.std.{proofs.Common.{sym, ◌∙◌, subst, arith, ⊎_elim, inl, inr, length-append, append_assoc}, specs.Prelude.{◌≢◌, ◌⊎◌, if◌then◌else◌}}
use Rattle.std.proofs.lemmas.{List.{get_or-set_same, get_or-set_other, length-set}, Bool.Decides.{eqb_tells}}
use Rattle.board_parts.specs.Free.{listed_in, listed_from}

-- Of the n buffers from `first` on, those from the place `left` on are moved.
pub record IsMoved (before now : List Bool) (cache0 cache : List ℕ) (first n left count : ℕ) : Type 0 where
  pub len : length now ≡ length before
  pub fits : left ≤ n
  pub within : first + n ≤ length before
  pub counts : count + length (listed_from before first left) ≡ length (listed_from before first n)
  pub moves : cache ++ listed_from before first left ≡ cache0 ++ listed_from before first n
  pub below : (b : ℕ) → (b < first + left) ⊎ (first + n ≤ b) → listed_in now b ≡ listed_in before b
  pub moved : (b : ℕ) → first + left ≤ b → b < first + n → listed_in now b ≡ false

at-true : (before : List Bool) (first m : ℕ) → listed_in before (first + m) ≡ true
    → listed_from before first (suc m) ≡ (first + m) ∷ listed_from before first m
at-true before first m e = rw e refl

at-false : (before : List Bool) (first m : ℕ) → listed_in before (first + m) ≡ false → listed_from before first (suc m) ≡ listed_from before first m
at-false before first m e = rw e refl

pub length-listed_from : (before : List Bool) (first n : ℕ) → length (listed_from before first n) ≤ n
length-listed_from before first zero = omega arith
length-listed_from before first (suc n) = case (listed_in before (first + n)) (length-listed_from before first n)
  where
    case : (c : Bool) → length (listed_from before first n) ≤ n → length ((if c then (first + n) ∷ [] else []) ++ listed_from before first n) ≤ suc n
    case true h = omega arith
    case false h = omega arith

module _ (before now : List Bool) (cache0 cache : List ℕ) (first n left m count : ℕ) (h : IsMoved before now cache0 cache first n left count)
    (e : left ≡ suc m) where
  pub same_here : listed_in now (first + m) ≡ listed_in before (first + m)
  same_here = h.below (first + m) (inl (omega arith))

  at_next : IsMoved before now cache0 cache first n (suc m) count
  at_next = subst (λ l. IsMoved before now cache0 cache first n l count) e h

  pub IsMoved-yes : listed_in now (first + m) ≡ true → IsMoved before (set now (first + m) false) cache0 (cache ++ (first + m) ∷ []) first n m (count + 1)
  IsMoved-yes is =
      let x = first + m in
      let fits = h.fits in
      let there : x < length now = let w = h.within in let l = h.len in omega arith in
      let front = at-true before first m (sym same_here ∙ is) in
      record {
        len = length-set now x false ∙ h.len;
        fits = omega arith;
        within = h.within;
        counts = omega (arith, ap length front, at_next.counts);
        moves = append_assoc cache (x ∷ []) (listed_from before first m) ∙ (ap (λ ys. cache ++ ys) (sym front) ∙ at_next.moves);
        below = λ b where_. get_or-set_other now x b false false (λ same. ⊎_elim (λ under. absurd (omega arith)) (λ over. absurd (omega arith)) where_)
            ∙ at_next.below b (⊎_elim (λ under. inl (omega arith)) (λ over. inr over) where_);
        moved = λ b from to. ⊎_elim
            (λ t. let same : b ≡ x = t.1 in subst (λ y. listed_in (set now x false) y ≡ false) (sym same) (get_or-set_same now x false false there))
            (λ t. let ne : b ≢ x = t.1 in get_or-set_other now x b false false ne ∙ at_next.moved b (omega arith) to)
            (eqb_tells b x);
      }

  pub IsMoved-no : listed_in now (first + m) ≡ false → IsMoved before now cache0 cache first n m count
  IsMoved-no skip =
      let x = first + m in
      let fits = h.fits in
      let front = at-false before first m (sym same_here ∙ skip) in
      record {
        len = h.len;
        fits = omega arith;
        within = h.within;
        counts = omega (arith, ap length front, at_next.counts);
        moves = ap (λ ys. cache ++ ys) (sym front) ∙ at_next.moves;
        below = λ b where_. at_next.below b (⊎_elim (λ under. inl (omega arith)) (λ over. inr over) where_);
        moved = λ b from to. ⊎_elim
            (λ t. let same : b ≡ x = t.1 in subst (λ y. listed_in now y ≡ false) (sym same) skip)
            (λ t. let ne : b ≢ x = t.1 in at_next.moved b (omega arith) to)
            (eqb_tells b x);
      }

  -- a buffer that is listed has room in the cache
  pub has-room : (room : ℕ) → length cache0 + n ≤ room → listed_in now (first + m) ≡ true → length cache < room
  has-room room enough is =
      let front = at-true before first m (sym same_here ∙ is) in
      omega (
        arith,
        ap length front,
        ap length at_next.moves,
        length-append cache (listed_from before first (suc m)),
        length-append cache0 (listed_from before first n),
        length-listed_from before first n,
      )

  pub few-moved : count ≤ n
  few-moved = omega (arith, h.counts, length-listed_from before first n)
