use Rattle.std.proofs.Common.{refl}
use Rattle.ref_words.specs.Runs.{lends_spare}
use Rattle.word_board.proofs.{LoansOut.{loans-few}, Stepping.{app-may, raises-user}}
use Rattle.word_board.proofs.kinds.users.lend_spare.Goals as goal

pub step-requires-clause-may : goal.step-requires-clause-may
step-requires-clause-may c = app-may (
    let setting = c.args.app.now.board.setting in
    let mine = c.args.app.now.side in
    record {
      number = λ n. refl;
      making = λ n. refl;
      step = λ ws nic apps rule here small.
          let law = c.app_keeps_the_rule.ensures setting ws nic apps mine (lends_spare c.args.own) rule here
          (c.requires.out, c.requires.filled, c.requires.can, c.requires.unbegun) in
          (raises-user setting ws mine.view.app c.args.own.buffer c.user-word.result (cc) c.number.ensures.here c.requires.within rule law.finds law.rule, loans-few setting ws nic apps mine.view.app c.args.own.buffer mine rule here c.number.ensures.here c.requires.within law.finds);
    })
