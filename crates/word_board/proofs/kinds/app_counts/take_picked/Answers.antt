use Rattle.std.proofs.Common.{refl, arith}
use Rattle.ref_words.specs.Runs.{takes_picked}
use Rattle.word_board.proofs.Stepping.{app-may, raises}
use Rattle.word_board.proofs.kinds.app_counts.take_picked.Goals as goal

pub step-requires-clause-may : goal.step-requires-clause-may
step-requires-clause-may c = app-may (
    let setting = c.args.app.now.board.setting in
    let mine = c.args.app.now.side in
    record {
      number = λ n. refl;
      making = λ n. refl;
      step = λ ws nic apps rule here small.
          let law = c.app_keeps_the_rule.ensures setting ws nic apps mine (takes_picked c.args.buffer) rule here
          (c.requires.in_hand, c.requires.due, c.requires.here) in
          (raises setting ws c.args.buffer c.pool-word.result (cc) c.requires.within rule (omega (arith, law.finds.1)) law.rule, law.finds.0);
    })
