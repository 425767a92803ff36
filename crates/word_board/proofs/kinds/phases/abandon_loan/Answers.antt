use Rattle.std.proofs.Common.{refl}
use Rattle.ref_words.specs.Runs.{abandons}
use Rattle.word_board.proofs.Stepping.{app-may, loads}
use Rattle.word_board.proofs.kinds.phases.abandon_loan.Goals as goal

pub step-requires-clause-may : goal.step-requires-clause-may
step-requires-clause-may c = app-may (
    let setting = c.args.app.now.board.setting in
    let mine = c.args.app.now.side in
    record {
      number = λ n. refl;
      making = λ n. refl;
      step = λ ws nic apps rule here small.
          let law = c.app_keeps_the_rule.ensures setting ws nic apps mine (abandons c.args.place) rule here (c.requires.out, c.requires.unread) in
          (loads setting ws c.pool-word.result law.rule, tt);
    })
