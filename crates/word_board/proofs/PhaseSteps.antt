-- What a law says of a phase word is what the table asks of a step there.
use Rattle.std.proofs.Common.{◌≡◌, ℕ, ◌<◌, List, set, get_or, refl, ap, ◌∙◌, arith}
use Rattle.board_face.specs.declared.views.{parts.Setting.{Setting}, nic.NicSide.{NicSide}, app.AppSide.{AppSide}}
use Rattle.ref_words.{specs.{Words.{Words, table_of, phase_at, roles_of}, PhaseRule.{with_phase}, Rule.{BoardRule}}, proofs.PhaseWords.{phase-word, phase-set}}
use Rattle.word_board.specs.Steps.{MakesWords}

module _ (setting : Setting) (words : Words) (r x : ℕ) (at : x ≡ phase_at setting r) (few : r < roles_of setting) where
  pub found-phase : {nic : NicSide} {apps : List AppSide} → BoardRule setting words nic apps → get_or (table_of words) x 0 ≡ get_or words.phases r 0
  found-phase rule =
      ap (λ y. get_or (table_of words) y 0) at ∙ phase-word setting words rule.refs.sizes r (omega (arith, few, rule.refs.sizes.phases))

  -- where a law stores 1 there, storing it does
  pub stores-phase : {nic now : NicSide} {apps apps' : List AppSide} → BoardRule setting words nic apps
      → BoardRule setting (with_phase words r) now apps' → MakesWords setting words x 1 now apps'
  stores-phase rule after = record {
    words' = with_phase words r;
    laid = ap (λ y. set (table_of words) y 1) at ∙ phase-set setting words rule.refs.sizes r (omega (arith, few, rule.refs.sizes.phases));
    roles = refl;
    area = refl;
    rule = after;
  }
