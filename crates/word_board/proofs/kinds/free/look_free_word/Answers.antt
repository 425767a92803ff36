use Rattle.std.{proofs.Common.{arith, ℕ, set, ap, ◌∙◌, refl}, specs.Prelude.{◌==◌}}
use Rattle.board_face.specs.{declared.views.app.AppSide.{AppSide}, AppEvents.{app_gist}}
use Rattle.ref_words.{specs.{FreeSteps.{side_word_looked}, Words.{free_at}, Rule.{BoardRule}, Runs.{looks_word}}, proofs.AppNumbers.{word_looked-number}}
use Rattle.word_board.{specs.Told.{SawFree}, proofs.{Telling.{tells-app}, Stepping.{app-may, loads}, FreeWords.{of-word}}}
use Rattle.word_board.proofs.kinds.free.look_free_word.Goals as goal

pub step-requires-clause-may : goal.step-requires-clause-may
step-requires-clause-may c = app-may (
    let setting = c.args.app.now.board.setting in
    let mine = c.args.app.now.side in
    let j = c.args.word in
    let next : ℕ → AppSide = λ n. side_word_looked mine j (n == 0) in
    let at = c.free-index.ensures.value ∙ ap (λ s. free_at s j) c.map.ensures in
    record {
      number = λ n. word_looked-number mine j (n == 0);
      making = λ n. grind arith;
      step = λ ws nic apps rule here small.
          let law = c.app_keeps_the_rule.ensures setting ws nic apps mine (looks_word j) rule here c.requires.within in (
            loads setting ws c.free-index.result
                (of-word setting ws j c.free-index.result at c.requires.within rule (λ n. BoardRule setting ws nic (set apps mine.view.app (next n))) law.rule),
            of-word setting ws j c.free-index.result at c.requires.within rule (SawFree setting (app_gist mine.view) j)
                (tells-app setting ws nic apps mine rule here _ refl),
          );
    })
