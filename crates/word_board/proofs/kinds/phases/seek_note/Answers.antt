use Rattle.std.{proofs.Common.{◌≡◌, ℕ, ◌<◌, set, sym, subst, arith}, specs.Prelude.{◌==◌, false}}
use Rattle.board_face.specs.declared.views.app.AppSide.{AppSide}
use Rattle.ref_words.{specs.{PhaseSteps.{side_note_sought}, Words.{note_at}, Rings.{takes_note_at}, Rule.{BoardRule}}, proofs.AppNumbers.{note_sought-number}}
use Rattle.ref_words.specs.Runs.{seeks_note}
use Rattle.word_board.proofs.{Telling.{tells-app}, Stepping.{app-may, loads, found-note}}
use Rattle.word_board.proofs.kinds.phases.seek_note.Goals as goal

pub step-requires-clause-may : goal.step-requires-clause-may
step-requires-clause-may c = app-may (
    let setting = c.args.app.now.board.setting in
    let mine = c.args.app.now.side in
    let a = mine.view.app in
    let s = takes_note_at setting mine in
    let i : ℕ = 0 in
    let at : c.note-word.result ≡ note_at setting a s i = cc in
    let within : s < setting.places = subst (λ k. k < setting.places) c.requires.slot.next c.requires.slot.within in
    let next : ℕ → AppSide = λ n. side_note_sought mine (n == 1) in
    record {
      number = λ n. note_sought-number mine (n == 1);
      making = λ n. grind arith;
      step = λ ws nic apps rule here small.
          let law = c.app_keeps_the_rule.ensures setting ws nic apps mine seeks_note rule here tt in (
            loads setting ws c.note-word.result
                (subst (λ n. BoardRule setting ws nic (set apps a (next n)))
                (sym (found-note setting ws a s i c.note-word.result at c.number.ensures.here within (omega arith) rule)) law.rule),
            (λ no. tells-app setting ws nic apps mine rule here _ (subst (λ n. (n == 1) ≡ false) (found-note setting ws a s i c.note-word.result at c.number.ensures.here within (omega arith) rule) no)),
          );
    })
