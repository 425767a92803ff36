use Rattle.std.proofs.Common.{◌≡◌, ◌+◌, ◌%◌, ◌^◌, get_or, set, refl, sym, subst, arith}
use Rattle.board_face.specs.{AppCalls.{HasNoneIn}, Steps.{side_spare_begun}, AppEvents.{reserve_of}}
use Rattle.ref_words.specs.{Words.{table_of}, Runs.{takes_reserve}}
use Rattle.word_board.{specs.Steps.{MakesWords}, proofs.Stepping.{app-may, raises}}
use Rattle.word_board.proofs.kinds.app_counts.take_reserve.Goals as goal

pub step-requires-clause-may : goal.step-requires-clause-may
step-requires-clause-may c = app-may (
    let setting = c.args.app.now.board.setting in
    let mine = c.args.app.now.side in
    record {
      number = λ n. refl;
      making = λ n. refl;
      step = λ ws nic apps rule here small.
          let law = c.app_keeps_the_rule.ensures setting ws nic apps mine takes_reserve rule here
          (c.requires.searched, c.requires.free, c.requires.due, c.requires.here) in
          let own : reserve_of mine.view ≡ c.args.reserve = sym c.requires.reserve.own in (
            subst (λ b. MakesWords setting ws c.pool-word.result ((get_or (table_of ws) c.pool-word.result 0 + 1) % 2 ^ 64) nic
                (set apps mine.view.app (side_spare_begun mine b))) own
                (raises setting ws (reserve_of mine.view) c.pool-word.result (cc) (omega (arith, own, c.requires.reserve.within)) rule (omega (arith, law.finds.1)) law.rule),
            subst (λ b. HasNoneIn mine.view b) own law.finds.0,
          );
    })
