use Rattle.std.proofs.Common.{ℕ, ◌-◌, ◌==◌, set, refl, ap, ◌∙◌}
use Rattle.board_face.specs.{declared.views.app.AppSide.{AppSide}, Steps.{side_owes_lowered}}
use Rattle.ref_words.specs.{Words.{pool_at, with_pool, pool_word_of}, Rule.{BoardRule}, Runs.{lowers_scrubbed}}
use Rattle.word_board.proofs.Stepping.{app-may, lowers, of-count}
use Rattle.word_board.proofs.kinds.app_counts.lower_scrubbed.Goals as goal

pub step-requires-clause-may : goal.step-requires-clause-may
step-requires-clause-may c = app-may (
    let setting = c.args.app.now.board.setting in
    let mine = c.args.app.now.side in
    let next : ℕ → AppSide = λ n. side_owes_lowered mine c.args.buffer (n == c.args.n) in
    let at = c.pool-word.ensures.value ∙ ap (λ s. pool_at s c.args.buffer) c.map.ensures in
    record {
      number = λ n. refl;
      making = λ n. refl;
      step = λ ws nic apps rule here small.
          let law = c.app_keeps_the_rule.ensures setting ws nic apps mine (lowers_scrubbed c.args.buffer c.args.n) rule here
          (c.requires.within, c.requires.owes, c.requires.some) in (
            lowers setting ws c.args.buffer c.pool-word.result at c.requires.within rule c.args.n c.requires.some law.finds small
                (of-count setting ws c.args.buffer c.pool-word.result at c.requires.within rule (λ n. BoardRule setting (with_pool ws c.args.buffer
                (pool_word_of ws c.args.buffer - c.args.n)) nic (set apps mine.view.app (next n))) law.rule),
            tt,
          );
    })
