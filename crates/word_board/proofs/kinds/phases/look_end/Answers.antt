use Rattle.std.{proofs.Common.{◌≡◌, ℕ, true, set, ap, sym, ◌∙◌, subst, arith}, specs.Prelude.{◌==◌, false}}
use Rattle.board_face.specs.{declared.views.app.AppSide.{AppSide}, AppEvents.{app_gist}}
use Rattle.ref_words.{specs.{PhaseSteps.{side_end_looked}, Rule.{BoardRule}, PhaseRule.{phase_word}}, proofs.{AppNumbers.{end_looked-number}, Phases.{phases-mine}}}
use Rattle.ref_words.specs.Runs.{looks_end}
use Rattle.word_board.{specs.Told.{SawNotEnded}, proofs.{Telling.{tells-app}, PhaseSteps.{found-phase}, Stepping.{app-may, loads}}}
use Rattle.word_board.proofs.kinds.phases.look_end.Goals as goal

pub step-requires-clause-may : goal.step-requires-clause-may
step-requires-clause-may c = app-may (
    let setting = c.args.app.now.board.setting in
    let mine = c.args.app.now.side in
    let told : ℕ → Type 0 = λ n. (mine.inside.end_seen ≡ true → n ≡ 1) × (mine.view.ended ≡ true → n ≡ 1)
    × ((n == 1) ≡ false → SawNotEnded setting (app_gist mine.view)) in
    let next : ℕ → AppSide = λ n. side_end_looked mine (n == 1) in
    record {
      number = λ n. end_looked-number mine (n == 1);
      making = λ n. grind arith;
      step = λ ws nic apps rule here small.
          let law = c.app_keeps_the_rule.ensures setting ws nic apps mine looks_end rule here tt in
          let found = found-phase setting ws 0 c.phase-word.result (cc) (omega arith) rule in (
            loads setting ws c.phase-word.result (subst (λ n. BoardRule setting ws nic (set apps mine.view.app (next n))) (sym found) law.rule),
            (
              (λ saw. found ∙ law.finds saw),
              (λ told_so. found ∙ (rule.phases.word ∙ ap phase_word ((phases-mine ws.phases nic apps rule.phases mine.view.app mine here).told told_so).0)),
              (λ no. tells-app setting ws nic apps mine rule here _ (subst (λ n. (n == 1) ≡ false) found no)),
            ),
          );
    })
