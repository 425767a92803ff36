-- Which positions the kept pieces have.
use Rattle.std.proofs.Common.{◌≡◌, ℕ, ◌^◌, ◌<◌, ◌≤◌, List, [], ◌∷◌, nat_lt, Bool, true, false, ◌||◌, ◌⊎◌, refl, ap, ◌∙◌, ⊎_elim, inl, inr, arith}
use Rattle.std.proofs.lemmas.Bool.{and_from, and_left, and_right, and_parts, or_from, or_left, le-leb, lt-leb, lt-ltb, le-ltb, leb-true, ltb-true, ltb-false}
use Rattle.std.proofs.lemmas.Bool.{cases_lt, cond_both, both_ways}
use Rattle.tcp_reorder.specs.Queue.{Kept, end_of, covers, is_kept, top_of, with_kept, AreApart, EndWithin}

pub either_order : (a b c : Bool) → (a || (b || c)) ≡ (b || (a || c))
either_order true true c = refl
either_order true false c = refl
either_order false true c = refl
either_order false false c = refl

module _ {H : Type 0} where
  pub covers-within : (one : Kept H) (p : ℕ) → one.position ≤ p → p < end_of one → covers one p ≡ true
  covers-within one p from until = and_from _ _ (le-leb one.position p from) (lt-ltb p (end_of one) until)

  pub covers-before : (one : Kept H) (p : ℕ) → p < one.position → covers one p ≡ false
  covers-before one p before = and_left _ _ (lt-leb one.position p before)

  pub covers-behind : (one : Kept H) (p : ℕ) → end_of one ≤ p → covers one p ≡ false
  covers-behind one p behind = and_right _ _ (le-ltb p (end_of one) behind)

  pub covered : (one : Kept H) (p : ℕ) → covers one p ≡ true → (one.position ≤ p) × (p < end_of one)
  covered one p there = let parts = and_parts _ _ there in (leb-true one.position p parts.0, ltb-true p (end_of one) parts.1)

  -- before, in or behind the piece
  pub cases_piece : (one : Kept H) (p : ℕ) → (p < one.position) ⊎ (((one.position ≤ p) × (p < end_of one)) ⊎ (end_of one ≤ p))
  cases_piece one p = ⊎_elim
      (λ before. inl before)
      (λ from. ⊎_elim (λ until. inr (inl (from, until))) (λ behind. inr (inr behind)) (cases_lt p (end_of one)))
      (cases_lt p one.position)

  pub AreApart-lower : (from lower : ℕ) (kept : List (Kept H)) → lower ≤ from → AreApart from kept → AreApart lower kept
  AreApart-lower from lower [] below apart = tt
  AreApart-lower from lower (one ∷ others) below apart = (omega arith, apart.1, apart.2, apart.3)

  pub is_kept-below : (from : ℕ) (kept : List (Kept H)) (p : ℕ) → AreApart from kept → p < from → is_kept kept p ≡ false
  is_kept-below from [] p apart below = refl
  is_kept-below from (one ∷ others) p apart below =
      or_from _ _ (covers-before one p (omega arith)) (is_kept-below (end_of one) others p apart.3 (omega arith))

  pub top_of-above : (top : ℕ) (kept : List (Kept H)) → top ≤ top_of top kept
  top_of-above top [] = omega arith
  top_of-above top (one ∷ others) = let above : top ≤ top_of top others = top_of-above top others in omega arith

  pub is_kept-past : (top : ℕ) (kept : List (Kept H)) (p : ℕ) → top_of top kept ≤ p → is_kept kept p ≡ false
  is_kept-past top [] p past = refl
  is_kept-past top (one ∷ others) p past = or_from _ _ (covers-behind one p (omega arith)) (is_kept-past top others p (omega arith))

  pub is_kept-behind : (limit : ℕ) (kept : List (Kept H)) (p : ℕ) → EndWithin limit kept → limit ≤ p → is_kept kept p ≡ false
  is_kept-behind limit [] p within behind = refl
  is_kept-behind limit (one ∷ others) p within behind = or_from _ _ (covers-behind one p (omega arith)) (is_kept-behind limit others p within.1 behind)

  pub EndWithin-more : (limit more : ℕ) (kept : List (Kept H)) → limit ≤ more → EndWithin limit kept → EndWithin more kept
  EndWithin-more limit more [] below within = tt
  EndWithin-more limit more (one ∷ others) below within = (omega arith, EndWithin-more limit more others below within.1)

  -- ---- one piece more

  pub is_kept-with_kept : (kept : List (Kept H)) (one : Kept H) (p : ℕ) → is_kept (with_kept kept one) p ≡ (covers one p || is_kept kept p)
  is_kept-with_kept [] one p = refl
  is_kept-with_kept (first ∷ others) one p =
      cond_both (nat_lt one.position first.position) (one ∷ first ∷ others) (first ∷ with_kept others one)
      (λ all. is_kept all p ≡ (covers one p || is_kept (first ∷ others) p))
      (λ _. refl)
      (λ _. ap (λ b. covers first p || b) (is_kept-with_kept others one p) ∙ either_order (covers first p) (covers one p) (is_kept others p))

  pub EndWithin-with_kept : (limit : ℕ) (kept : List (Kept H)) (one : Kept H) → EndWithin limit kept → end_of one ≤ limit
      → EndWithin limit (with_kept kept one)
  EndWithin-with_kept limit [] one within end = (end, tt)
  EndWithin-with_kept limit (first ∷ others) one within end =
      cond_both (nat_lt one.position first.position) (one ∷ first ∷ others) (first ∷ with_kept others one)
      (λ all. EndWithin limit all)
      (λ _. (end, within))
      (λ _. (within.0, EndWithin-with_kept limit others one within.1 end))

  -- no position of the piece is kept
  pub record IsFree (kept : List (Kept H)) (one : Kept H) : Type 0 where
    pub free : (p : ℕ) → one.position ≤ p → p < end_of one → is_kept kept p ≡ false

  IsFree-others : (first : Kept H) (others : List (Kept H)) (one : Kept H) → IsFree (first ∷ others) one → IsFree others one
  IsFree-others first others one free = record { free = λ p from until. (or_false _ _ (free.free p from until)) }
    where
      or_false : (a b : Bool) → (a || b) ≡ false → b ≡ false
      or_false true b h = cc
      or_false false b h = h

  -- neither begins within the other
  IsFree-apart : (first : Kept H) (others : List (Kept H)) (one : Kept H) → IsFree (first ∷ others) one → 0 < first.len → 0 < one.len
      → (end_of one ≤ first.position) ⊎ (end_of first ≤ one.position)
  IsFree-apart first others one free some more = ⊎_elim
      (λ before. inl before)
      (λ late. ⊎_elim
      (λ early. absurd (⊎_elim
      (λ (lower : one.position < first.position). both_ways _ (free.free first.position (omega arith) late)
      (or_left _ _ (covers-within first first.position (omega arith) (omega arith))))
      (λ (upper : first.position ≤ one.position). both_ways _ (free.free one.position (omega arith) (omega arith))
      (or_left _ _ (covers-within first one.position upper early)))
      (cases_lt one.position first.position)))
      (λ behind. inr behind)
      (cases_lt one.position (end_of first)))
      (flip (cases_lt first.position (end_of one)))
    where
      flip : {A B : Type 0} → A ⊎ B → B ⊎ A
      flip (inl a) = inr a
      flip (inr b) = inl b

  pub AreApart-with_kept : (from : ℕ) (kept : List (Kept H)) (one : Kept H) → AreApart from kept → from ≤ one.position → 0 < one.len
      → one.len < 2 ^ 32 → IsFree kept one → AreApart from (with_kept kept one)
  AreApart-with_kept from [] one apart above some small free = (above, some, small, tt)
  AreApart-with_kept from (first ∷ others) one apart above some small free =
      cond_both (nat_lt one.position first.position) (one ∷ first ∷ others) (first ∷ with_kept others one)
      (λ all. AreApart from all)
      (λ test. let lower : one.position < first.position = ltb-true _ _ test in
      let before : end_of one ≤ first.position = ⊎_elim (λ h. h) (λ h. absurd (omega arith)) (IsFree-apart first others one free apart.1 some) in
      (above, some, small, (before, apart.1, apart.2, apart.3)))
      (λ test. let upper : first.position ≤ one.position = ltb-false _ _ test in
      let behind : end_of first ≤ one.position = ⊎_elim (λ h. absurd (omega arith)) (λ h. h) (IsFree-apart first others one free apart.1 some) in
      (apart.0, apart.1, apart.2, AreApart-with_kept (end_of first) others one apart.3 behind some small (IsFree-others first others one free)))
