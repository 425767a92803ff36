use Rattle.std.{proofs.Common.{◌≡◌, ℕ, ◌+◌, false, sym, subst, arith, refl}, specs.Prelude.{◌==◌}}
use Rattle.board_face.specs.declared.views.nic.NicSide.{NicSide}
use Rattle.ref_words.specs.{PhaseSteps.{side_leave_looked}, Rule.{BoardRule}, Words.{phase_at}, Runs.{looks_left}}
use Rattle.word_board.proofs.{Telling.{tells-card}, PhaseSteps.{found-phase}, Stepping.{card-may, loads}}
use Rattle.word_board.proofs.kinds.phases.look_left.Goals as goal

pub step-requires-clause-may : goal.step-requires-clause-may
step-requires-clause-may c = card-may (λ n. refl) (λ ws apps rule small.
    let setting = c.args.card.now.board.setting in
    let mine = c.args.card.now.side in
    let a : ℕ = c.args.app in
    let next : ℕ → NicSide = λ n. side_leave_looked mine a (n == 1) in
    let at : c.phase-word.result ≡ phase_at setting (1 + a) = cc in
    let law = c.card_keeps_the_rule.ensures setting ws mine apps (looks_left a) rule c.requires.app in (
      loads setting ws c.phase-word.result
          (subst (λ n. BoardRule setting ws (next n) apps)
          (sym (found-phase setting ws (1 + a) c.phase-word.result at (omega (arith, c.requires.app)) rule)) law.rule),
      (λ no. tells-card setting ws mine apps rule _ (subst (λ n. (n == 1) ≡ false)
          (found-phase setting ws (1 + a) c.phase-word.result at (omega (arith, c.requires.app)) rule) no)),
    ))
