use Rattle.std.{proofs.Common.{◌≡◌, ⊎_elim, ℕ, suc, ◌-◌, ◌*◌, ◌%◌, ◌^◌, ◌<◌, ◌≤◌, ◌∷◌, ap, ◌∙◌, arith, subst}, specs.Prelude.{bit_and}}
use Rattle.std.{specs.Int.{bit_at, bit_not, w64, leading_zeros}, proofs.lemmas.Nat.{leading_top}}
use Rattle.std.proofs.lemmas.{Nat.Bits.{bit_at_and, bit_at_above, bit_at_clear_same, bit_at_clear_other}, Bool.{cases_lt, Decides.{eqb_tells}}}
use Rattle.ref_words.{specs.FreeSteps.{all_listed_in}, proofs.Found.{found-first}}
use Rattle.word_board.proofs.found.highest_listed.Goals as goal

-- the bits of a number that is cut by its highest one
module _ (n k : ℕ) (small : k < 64) (to : n < 2 ^ suc k) where
  abbrev left : ℕ
  left = bit_and n (bit_not w64 (1 * 2 ^ k % 2 ^ 64))

  none-from : (i : ℕ) → k ≤ i → bit_at left i ≡ 0
  none-from i from =
      ⊎_elim
      (λ t. ap (bit_at left) t.1 ∙ bit_at_clear_same w64 n k small)
      (λ t. let ne = t.1 in
      let past : suc k ≤ i = ⊎_elim (λ more. more) (λ less. absurd (ne (omega (arith, from, less)))) (cases_lt k i) in
      omega (arith, bit_at_and n (bit_not w64 (1 * 2 ^ k % 2 ^ 64)) i, bit_at_above n (suc k) i to past))
      (eqb_tells i k)

  same-under : (i : ℕ) → i < k → bit_at left i ≡ bit_at n i
  same-under i less = bit_at_clear_other w64 n k small i (omega (arith, less, small)) (λ e. omega (arith, e, less))

pub returns : goal.returns
returns c =
    let n = c.args.found in
    let word = c.args.word in
    let top = leading_top 64 n (omega (arith, c.if-found-eq0.false)) (omega (arith, c.ranges.found.fits)) in
    let k : ℕ = 64 - 1 - leading_zeros w64 n in
    let same : top.0 ≡ k = omega (arith, top.1) in
    let small : k < 64 = omega arith in
    let to : n < 2 ^ suc k = subst (λ x. n < 2 ^ suc x) same top.3 in
    found-first word (left n k small to) n k small (subst (λ x. 2 ^ x ≤ n) same top.2) to (none-from n k small to) (same-under n k small to)
    ∙ ap (λ x. x ∷ all_listed_in word (left n k small to)) (omega arith)
