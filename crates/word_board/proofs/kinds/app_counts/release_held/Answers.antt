use Rattle.std.proofs.Common.{ℕ, ◌-◌, ◌==◌, set, refl, ap, ◌∙◌, arith}
use Rattle.board_face.specs.{declared.views.app.AppSide.{AppSide}, Steps.{side_released}}
use Rattle.ref_words.specs.{Words.{pool_at, with_pool, pool_word_of}, Rule.{BoardRule}, Runs.{releases}}
use Rattle.word_board.proofs.Stepping.{app-may, lowers, of-count}
use Rattle.word_board.proofs.kinds.app_counts.release_held.Goals as goal

pub step-requires-clause-may : goal.step-requires-clause-may
step-requires-clause-may c = app-may (
    let setting = c.args.app.now.board.setting in
    let mine = c.args.app.now.side in
    let next : ℕ → AppSide = λ n. side_released mine c.args.place (n == 1) in
    let at = c.pool-word.ensures.value ∙ ap (λ s. pool_at s c.args.place.buffer) c.map.ensures in
    record {
      number = λ n. refl;
      making = λ n. refl;
      step = λ ws nic apps rule here small.
          let law = c.app_keeps_the_rule.ensures setting ws nic apps mine (releases c.args.place) rule here c.requires.out in (
            lowers setting ws c.args.place.buffer c.pool-word.result at c.requires.within rule 1 (omega arith) law.finds small
                (of-count setting ws c.args.place.buffer c.pool-word.result at c.requires.within rule (λ n. BoardRule setting (with_pool ws c.args.place.buffer
                (pool_word_of ws c.args.place.buffer - 1)) nic (set apps mine.view.app (next n))) law.rule),
            tt,
          );
    })
