-- A phase word is stored or loaded.
use Rattle.std.proofs.{Common.{◌≡◌, ℕ, ◌<◌, Bool, true, false, set, get_or, length, refl, ◌∙◌, arith}, lemmas.List.{length-set}}
use Rattle.board_face.specs.declared.views.parts.Setting.{Setting}
use Rattle.ref_words.{specs.{Words.{Words, WordsHaveSizes, table_of, phase_at}, PhaseRule.{phase_word, with_phase}}, proofs.Laying.{group-word, group-set}}
use Rattle.ref_words.proofs.SlotSteps.{DifferInSlots}

module _ (setting : Setting) (words : Words) (sizes : WordsHaveSizes setting words) where
  pub phase-word : (r : ℕ) → r < length words.phases → get_or (table_of words) (phase_at setting r) 0 ≡ get_or words.phases r 0
  phase-word r there = group-word setting words sizes 1 r (omega arith) there

  pub phase-set : (r : ℕ) → r < length words.phases → set (table_of words) (phase_at setting r) 1 ≡ table_of (with_phase words r)
  phase-set r there = group-set setting words sizes 1 r 1 (omega arith) there

  -- no other word changes
  pub differ-phase : (r : ℕ) → DifferInSlots setting words (with_phase words r)
  differ-phase r = assumption (length-set words.phases r 1 ∙ sizes.phases, sizes)

-- the word says which it is
pub is-over : (over : Bool) → phase_word over ≡ 1 → over ≡ true
is-over true is = refl
is-over false is = absurd (omega (arith, is))
