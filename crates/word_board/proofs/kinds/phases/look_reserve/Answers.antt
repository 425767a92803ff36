use Rattle.std.{proofs.Common.{ℕ, set, ap, sym, ◌∙◌, subst, ◌≡◌, arith}, specs.Prelude.{◌==◌, false}}
use Rattle.board_face.specs.declared.views.app.AppSide.{AppSide}
use Rattle.ref_words.{specs.{PhaseSteps.{side_reserve_looked}, Rule.{BoardRule}, Words.{pool_at, pool_word_of}}, proofs.AppNumbers.{reserve_looked-number}}
use Rattle.ref_words.specs.Runs.{looks_reserve}
use Rattle.word_board.proofs.{Telling.{tells-app}, Stepping.{app-may, loads, of-count, found}}
use Rattle.word_board.proofs.kinds.phases.look_reserve.Goals as goal

pub step-requires-clause-may : goal.step-requires-clause-may
step-requires-clause-may c = app-may (
    let setting = c.args.app.now.board.setting in
    let mine = c.args.app.now.side in
    let a = mine.view.app in
    let next : ℕ → AppSide = λ n. side_reserve_looked mine (n == 0) in
    let at = c.pool-word.ensures.value ∙ ap (λ s. pool_at s c.args.reserve) c.map.ensures in
    record {
      number = λ n. reserve_looked-number mine (n == 0);
      making = λ n. grind arith;
      step = λ ws nic apps rule here small.
          let law = subst (λ b. BoardRule setting ws nic (set apps a (side_reserve_looked mine (pool_word_of ws b == 0)))) (sym c.requires.reserve.own)
          (c.app_keeps_the_rule.ensures setting ws nic apps mine looks_reserve rule here c.requires.searched).rule in (
            loads setting ws c.pool-word.result
                (of-count setting ws c.args.reserve c.pool-word.result at c.requires.reserve.within rule (λ n. BoardRule setting ws nic (set apps a (next n))) law),
            (λ no. tells-app setting ws nic apps mine rule here _ (subst (λ b. (pool_word_of ws b == 0) ≡ false) c.requires.reserve.own
                (subst (λ n. (n == 0) ≡ false) (found setting ws c.args.reserve c.pool-word.result at c.requires.reserve.within rule) no))),
          );
    })
