use Rattle.std.{proofs.Common.{ℕ, set, sym, subst, arith, ◌≡◌}, specs.Prelude.{◌==◌, false}}
use Rattle.board_face.specs.declared.views.app.AppSide.{AppSide}
use Rattle.ref_words.{specs.{RestSteps.{side_last_looked}, Words.{refill_at}, Rule.{BoardRule}, Runs.{looks_last}}, proofs.AppNumbers.{last_looked-number}}
use Rattle.word_board.proofs.{Telling.{tells-app}, Stepping.{app-may, loads, found-refill}}
use Rattle.word_board.proofs.kinds.refill_looks.look_at_last.Goals as goal

pub step-requires-clause-may : goal.step-requires-clause-may
step-requires-clause-may c = app-may (
    let setting = c.args.app.now.board.setting in
    let mine = c.args.app.now.side in
    let a = mine.view.app in
    let s = c.args.slot in
    let at : c.refill-word.result ≡ refill_at setting a s 0 = cc in
    let next : ℕ → AppSide = λ n. side_last_looked mine s (n == 0) in
    record {
      number = λ n. last_looked-number mine s (n == 0);
      making = λ n. grind arith;
      step = λ ws nic apps rule here small.
          let law = c.app_keeps_the_rule.ensures setting ws nic apps mine (looks_last s) rule here (c.requires.within, c.requires.others) in (
            loads setting ws c.refill-word.result
                (subst (λ n. BoardRule setting ws nic (set apps a (next n)))
                (sym (found-refill setting ws a s 0 c.refill-word.result at c.number.ensures.here c.requires.within (omega arith) rule)) law.rule),
            (λ no. tells-app setting ws nic apps mine rule here _ (record { slot = s; within = c.requires.within; in_use = (subst (λ n. (n == 0) ≡ false) (found-refill setting ws a s 0 c.refill-word.result at c.number.ensures.here c.requires.within (omega arith) rule) no) })),
          );
    })
