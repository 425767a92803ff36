use Rattle.std.{proofs.Common.{◌≡◌, ℕ, ◌<◌, set, sym, subst, arith}, specs.Prelude.{◌==◌, false}}
use Rattle.board_face.specs.{SlotSteps.{side_refill_looked}, declared.views.app.AppSide.{AppSide}}
use Rattle.ref_words.{specs.{Words.{refill_at}, Rings.{writes_entry_at}, Rule.{BoardRule}, Runs.{looks_refill}}, proofs.AppNumbers.{refill_looked-number}}
use Rattle.word_board.proofs.{Telling.{tells-app}, Stepping.{app-may, loads, found-refill}}
use Rattle.word_board.proofs.kinds.entries.look_refill.Goals as goal

pub step-requires-clause-may : goal.step-requires-clause-may
step-requires-clause-may c = app-may (
    let setting = c.args.app.now.board.setting in
    let mine = c.args.app.now.side in
    let a = mine.view.app in
    let s = writes_entry_at setting mine in
    let at : c.refill-word.result ≡ refill_at setting a s 0 = cc in
    let within : s < setting.places = subst (λ k. k < setting.places) c.requires.slot.next c.requires.slot.within in
    let next : ℕ → AppSide = λ n. side_refill_looked mine (n == 0) in
    record {
      number = λ n. refill_looked-number mine (n == 0);
      making = λ n. grind arith;
      step = λ ws nic apps rule here small.
          let law = c.app_keeps_the_rule.ensures setting ws nic apps mine looks_refill rule here tt in (
            loads setting ws c.refill-word.result
                (subst (λ n. BoardRule setting ws nic (set apps a (next n)))
                (sym (found-refill setting ws a s 0 c.refill-word.result at c.number.ensures.here within (omega arith) rule)) law.rule),
            (λ no. tells-app setting ws nic apps mine rule here _ (subst (λ n. (n == 0) ≡ false) (found-refill setting ws a s 0 c.refill-word.result at c.number.ensures.here within (omega arith) rule) no)),
          );
    })
