-- What the copying receiver has once the first values of a list were received, and then those of a gap behind them.
use Rattle.std.proofs.Common.{◌≡◌, ℕ, zero, suc, ◌+◌, ◌-◌, ◌^◌, ◌<◌, ◌≤◌, List, [], ◌∷◌, length, take, drop, None, IsSome, refl, sym, ap, subst, ◌∙◌}
use Rattle.std.proofs.{Common.{◌⊎◌, ⊎_elim, length-take-le, arith}, lemmas.{Bool.{cases_lt}, List.{length-drop}}}
use Rattle.zr_kinds.{specs.CopyingReceiver.{Placed, value_at, brought, first_of, filled_by_values}, proofs.{InOrder.{first_of-nothing}, ValuesFrom.{first_of-some}}}
use Rattle.tcp_reorder.proofs.Holding.{brought-at, brought-before, brought-past}

module _ {A : Type 0} where
  value_at-take : (xs : List A) (n k : ℕ) → k < n → value_at (take n xs) k ≡ value_at xs k
  value_at-take xs zero k below = absurd (omega arith)
  value_at-take [] (suc n) k below = refl
  value_at-take (x ∷ xs) (suc n) zero below = refl
  value_at-take (x ∷ xs) (suc n) (suc k) below = value_at-take xs n k (omega arith)

  value_at-drop : (xs : List A) (n k : ℕ) → value_at (drop n xs) k ≡ value_at xs (n + k)
  value_at-drop xs zero k = ap (value_at xs) (omega arith)
  value_at-drop [] (suc n) k = refl
  value_at-drop (x ∷ xs) (suc n) k = (let more : suc (n + k) ≡ suc n + k = omega arith in value_at-drop xs n k ∙ ap (value_at (x ∷ xs)) more)

  -- from its top on nothing is filled in
  pub filled-past : (placed : Placed A) (from : ℕ) (values : List A) → ((p : ℕ) → placed.top ≤ p → placed.at p ≡ None)
      → (p : ℕ) → (filled_by_values placed from values).top ≤ p → (filled_by_values placed from values).at p ≡ None
  filled-past placed from values past p behind =
      ap (λ value. first_of value (brought values from p)) (past p (omega arith)) ∙ brought-past values from p (omega arith)

  -- the place is before position 0, or something stands there
  abbrev pub IsPast : Placed A → ℕ → Type 0
  IsPast placed place = (place < 2 ^ 31) ⊎ IsSome (placed.at (place - 2 ^ 31))

module _ {A : Type 0} (part : List A) (from p : ℕ) where
  -- what the first n values bring
  brought-front : (n : ℕ) → from ≤ p + 2 ^ 31 → p + 2 ^ 31 < from + n → brought (take n part) from p ≡ value_at part (p + 2 ^ 31 - from)
  brought-front n above below = brought-at (take n part) from p above ∙ value_at-take part n (p + 2 ^ 31 - from) (omega arith)

  brought-behind : (n : ℕ) → n ≤ length part → from + n ≤ p + 2 ^ 31 → brought (take n part) from p ≡ None
  brought-behind n within behind = brought-past (take n part) from p (omega (arith, length-take-le n part within))

  -- before the end of the first `done` it makes no difference whether there are more
  same-before : (done n : ℕ) → done ≤ n → p + 2 ^ 31 < from + done → brought (take n part) from p ≡ brought (take done part) from p
  same-before done n more before = ⊎_elim
      (λ (under : p + 2 ^ 31 < from). brought-before (take n part) from p under ∙ sym (brought-before (take done part) from p under))
      (λ (above : from ≤ p + 2 ^ 31). brought-front n above (omega arith) ∙ sym (brought-front done above before))
      (cases_lt (p + 2 ^ 31) from)

-- the first `done` values of a part were received, the first of them at the position `from` less 2^31
module _ {A : Type 0} (placed : Placed A) (part : List A) (from done : ℕ) where
  abbrev pub so_far : Placed A
  so_far = filled_by_values placed from (take done part)

  -- behind them all is as before
  as-before : (p : ℕ) → done ≤ length part → from + done ≤ p + 2 ^ 31 → so_far.at p ≡ placed.at p
  as-before p within behind = ap (first_of (placed.at p)) (brought-behind part from p done within behind) ∙ first_of-nothing (placed.at p)

  -- what is past behind them stood before
  stood : (p : ℕ) → done ≤ length part → from + done ≤ p + 2 ^ 31 → IsPast so_far (p + 2 ^ 31) → IsSome (placed.at p)
  stood p within behind past = ⊎_elim
      (λ (low : p + 2 ^ 31 < 2 ^ 31). absurd (omega arith))
      (λ some. subst IsSome (as-before p within behind) (subst (λ q. IsSome (so_far.at q)) (omega arith) some))
      past

  -- a gap behind them is filled, and what lies between was there
  module _ (a b : ℕ) (from_done : done ≤ a) (to_b : a ≤ b) (within : b ≤ length part)
      (past : (k : ℕ) → done ≤ k → k < a → IsPast so_far (from + k)) where
    abbrev of_gap : List A
    of_gap = take (b - a) (drop a part)

    abbrev later : Placed A
    later = filled_by_values so_far (from + a) of_gap

    -- where the gap brings nothing
    no-gap : (p : ℕ) → brought of_gap (from + a) p ≡ None → later.at p ≡ so_far.at p
    no-gap p nothing = ap (first_of (so_far.at p)) nothing ∙ first_of-nothing (so_far.at p)

    in-front : (p : ℕ) → p + 2 ^ 31 < from + done → (filled_by_values placed from (take b part)).at p ≡ later.at p
    in-front p before =
        ap (first_of (placed.at p)) (same-before part from p done b (omega arith) before) ∙ sym (no-gap p (brought-before of_gap (from + a) p (omega arith)))

    between : (p : ℕ) → from + done ≤ p + 2 ^ 31 → p + 2 ^ 31 < from + a → (filled_by_values placed from (take b part)).at p ≡ later.at p
    between p behind before =
        let place : from + (p + 2 ^ 31 - from) ≡ p + 2 ^ 31 = omega arith in
        let there : IsSome (placed.at p) =
        stood p (omega arith) behind (subst (λ q. IsPast so_far q) place (past (p + 2 ^ 31 - from) (omega arith) (omega arith))) in
        first_of-some (placed.at p) (brought (take b part) from p) there ∙ sym (as-before p (omega arith) behind)
        ∙ sym (no-gap p (brought-before of_gap (from + a) p before))

    -- where both bring the same behind the first values
    alike : (p : ℕ) → from + done ≤ p + 2 ^ 31 → brought (take b part) from p ≡ brought of_gap (from + a) p
        → (filled_by_values placed from (take b part)).at p ≡ later.at p
    alike p behind same =
        ap (first_of (placed.at p)) same ∙ ap (λ value. first_of value (brought of_gap (from + a) p)) (sym (as-before p (omega arith) behind))

    in-gap : (p : ℕ) → from + a ≤ p + 2 ^ 31 → p + 2 ^ 31 < from + b → brought (take b part) from p ≡ brought of_gap (from + a) p
    in-gap p above below =
        brought-front part from p b (omega arith) below ∙ sym (brought-front (drop a part) (from + a) p (b - a) above (omega arith)
        ∙ value_at-drop part a (p + 2 ^ 31 - (from + a)) ∙ ap (value_at part) (omega arith))

    behind-gap : (p : ℕ) → from + b ≤ p + 2 ^ 31 → brought (take b part) from p ≡ brought of_gap (from + a) p
    behind-gap p behind =
        let long : b - a ≤ length (drop a part) = (let size : length (drop a part) ≡ length part - a = length-drop a part in omega arith) in
        brought-behind part from p b within behind ∙ sym (brought-behind (drop a part) (from + a) p (b - a) long (omega arith))

    pub gap-filled : (p : ℕ) → (filled_by_values placed from (take b part)).at p ≡ later.at p
    gap-filled p = ⊎_elim
        (λ (before : p + 2 ^ 31 < from + done). in-front p before)
        (λ (behind : from + done ≤ p + 2 ^ 31). ⊎_elim
        (λ (early : p + 2 ^ 31 < from + a). between p behind early)
        (λ (from_a : from + a ≤ p + 2 ^ 31). alike p behind (⊎_elim (in-gap p from_a) (behind-gap p) (cases_lt (p + 2 ^ 31) (from + b))))
        (cases_lt (p + 2 ^ 31) (from + a)))
        (cases_lt (p + 2 ^ 31) (from + done))

  -- nothing behind them is wanted
  pub all-filled : done ≤ length part → ((k : ℕ) → done ≤ k → k < length part → IsPast so_far (from + k)) → (p : ℕ)
      → (filled_by_values placed from part).at p ≡ so_far.at p
  all-filled within past p = ⊎_elim
      (λ (before : p + 2 ^ 31 < from + done). ap (first_of (placed.at p)) (⊎_elim
      (λ (under : p + 2 ^ 31 < from). brought-before part from p under ∙ sym (brought-before (take done part) from p under))
      (λ (above : from ≤ p + 2 ^ 31). brought-at part from p above ∙ sym (brought-front part from p done above before))
      (cases_lt (p + 2 ^ 31) from)))
      (λ (behind : from + done ≤ p + 2 ^ 31). ⊎_elim
      (λ (in_rest : p + 2 ^ 31 < from + length part).
      let place : from + (p + 2 ^ 31 - from) ≡ p + 2 ^ 31 = omega arith in
      let there : IsSome (placed.at p) = stood p within behind (subst (λ q. IsPast so_far q) place (past (p + 2 ^ 31 - from) (omega arith) (omega arith))) in
      first_of-some (placed.at p) (brought part from p) there ∙ sym (as-before p within behind))
      (λ (past_all : from + length part ≤ p + 2 ^ 31).
      ap (first_of (placed.at p)) (brought-past part from p past_all) ∙ first_of-nothing (placed.at p) ∙ sym (as-before p within behind))
      (cases_lt (p + 2 ^ 31) (from + length part)))
      (cases_lt (p + 2 ^ 31) (from + done))
