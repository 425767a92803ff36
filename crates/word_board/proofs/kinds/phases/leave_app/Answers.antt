use Rattle.std.proofs.Common.{◌+◌, refl, arith}
use Rattle.ref_words.specs.Runs.{leaves}
use Rattle.word_board.proofs.{PhaseSteps.{stores-phase}, Stepping.{app-may}}
use Rattle.word_board.proofs.kinds.phases.leave_app.Goals as goal

pub step-requires-clause-may : goal.step-requires-clause-may
step-requires-clause-may c = app-may (
    let setting = c.args.app.now.board.setting in
    let mine = c.args.app.now.side in
    let a = mine.view.app in
    record {
      number = λ n. refl;
      making = λ n. refl;
      step = λ ws nic apps rule here small.
          let law = c.app_keeps_the_rule.ensures setting ws nic apps mine leaves rule here c.requires.can in
          (stores-phase setting ws (1 + a) c.phase-word.result (cc) (omega (arith, c.number.ensures.here)) rule law.rule, tt);
    })
