use Rattle.std.proofs.Common.{refl}
use Rattle.ref_words.specs.Runs.{cuts}
use Rattle.word_board.proofs.{HeldPlaces.{held-ends}, Stepping.{app-may, raises}}
use Rattle.word_board.proofs.kinds.app_counts.cut_piece.Goals as goal

pub step-requires-clause-may : goal.step-requires-clause-may
step-requires-clause-may c = app-may (
    let setting = c.args.app.now.board.setting in
    let mine = c.args.app.now.side in
    record {
      number = λ n. refl;
      making = λ n. refl;
      step = λ ws nic apps rule here small.
          let law = c.app_keeps_the_rule.ensures setting ws nic apps mine (cuts c.args.place c.args.at) rule here
          (c.requires.out, c.requires.front, c.requires.rest) in
          (raises setting ws c.args.place.buffer c.pool-word.result (cc) c.requires.within rule law.finds law.rule, held-ends setting ws nic apps mine.view.app mine c.args.place rule here c.requires.out c.requires.within);
    })
