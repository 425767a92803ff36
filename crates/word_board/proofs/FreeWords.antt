-- What a law says of a word of the free list is what a step on it does.
use Rattle.std.{proofs.Common.{◌≡◌, ℕ, ◌/◌, ◌%◌, ◌^◌, ◌*◌, ◌<◌, List, set, get_or, refl, ap, sym, ◌∙◌, arith, subst}, specs.Prelude.{bit_and, bit_or}}
use Rattle.std.{specs.Int.{bit_not, w64}, proofs.lemmas.Nat.{one_shl}}
use Rattle.board_face.specs.{NicCalls.{free_words_of}, NicEvents.{word_bits}, declared.views.{parts.Setting.{Setting}, nic.NicSide.{NicSide}, app.AppSide.{AppSide}}}
use Rattle.ref_words.{specs.{Words.{Words, table_of, free_at, free_word_of, with_free, with_listed, with_unlisted}, Rule.{BoardRule}}, proofs.Laying.{free-word}}
use Rattle.ref_words.proofs.Laying.{free-set}
use Rattle.word_board.specs.Steps.{MakesWords}

module _ (setting : Setting) (words : Words) (j i : ℕ) (at : i ≡ free_at setting j) (within : j < free_words_of setting) where
  pub found-free : {nic : NicSide} {apps : List AppSide} → BoardRule setting words nic apps → get_or (table_of words) i 0 ≡ free_word_of words j
  found-free rule = ap (λ x. get_or (table_of words) x 0) at ∙ free-word setting words rule.refs.sizes j (omega (arith, within, rule.refs.sizes.free))

  -- where a law leaves n there, so does a step that makes m
  pub makes-free : {nic now : NicSide} {apps apps' : List AppSide} → BoardRule setting words nic apps → (m n : ℕ) → m ≡ n
      → BoardRule setting (with_free words j n) now apps' → MakesWords setting words i m now apps'
  makes-free rule m n is after = record {
    words' = with_free words j n;
    laid = ap (λ x. set (table_of words) x m) at ∙ (ap (λ x. set (table_of words) (free_at setting j) x) is
        ∙ free-set setting words rule.refs.sizes j n (omega (arith, within, rule.refs.sizes.free)));
    roles = refl;
    area = refl;
    rule = after;
  }

  -- what an event does with the word, it does with the number found
  pub of-word : {nic : NicSide} {apps : List AppSide} → BoardRule setting words nic apps → (P : ℕ → Type 0) → P (free_word_of words j)
      → P (get_or (table_of words) i 0)
  of-word rule P p = subst P (sym (found-free rule)) p

-- ---- one bit

module _ (setting : Setting) (words : Words) (b i : ℕ) (at : i ≡ free_at setting (b / word_bits)) (within : b / word_bits < free_words_of setting) where
  one-bit : 1 * 2 ^ (b % word_bits) % 2 ^ 64 ≡ 2 ^ (b % word_bits)
  one-bit = one_shl (b % word_bits) 64 (omega arith)

  -- where a law lists the buffer, setting its bit does
  pub lists-bit : {nic now : NicSide} {apps apps' : List AppSide} → BoardRule setting words nic apps → BoardRule setting (with_listed words b) now apps'
      → MakesWords setting words i (bit_or (get_or (table_of words) i 0) (1 * 2 ^ (b % word_bits) % 2 ^ 64)) now apps'
  lists-bit rule after = makes-free setting words (b / word_bits) i at within rule _ _
      (ap (bit_or (get_or (table_of words) i 0)) one-bit
      ∙ ap (λ n. bit_or n (2 ^ (b % word_bits))) (found-free setting words (b / word_bits) i at within rule)) after

  -- where a law doesn't list it any more, clearing its bit does
  pub clears-bit : {nic now : NicSide} {apps apps' : List AppSide} → BoardRule setting words nic apps
      → BoardRule setting (with_unlisted words b) now apps'
      → MakesWords setting words i (bit_and (get_or (table_of words) i 0) (bit_not w64 (1 * 2 ^ (b % word_bits) % 2 ^ 64))) now apps'
  clears-bit rule after = makes-free setting words (b / word_bits) i at within rule _ _
      (ap (λ m. bit_and (get_or (table_of words) i 0) (bit_not w64 m)) one-bit
      ∙ ap (λ n. bit_and n (bit_not w64 (2 ^ (b % word_bits)))) (found-free setting words (b / word_bits) i at within rule)) after
