use Rattle.std.proofs.Common.{◌≡◌, ℕ, set, refl}
use Rattle.board_face.specs.{declared.views.app.AppSide.{AppSide}, Steps.{side_user_taken}}
use Rattle.ref_words.specs.{Words.{user_word_at, with_user}, Rule.{BoardRule}, Runs.{scrubs}}
use Rattle.word_board.proofs.Stepping.{app-may, clears-user, of-user}
use Rattle.word_board.proofs.kinds.users.scrub_user.Goals as goal

pub step-requires-clause-may : goal.step-requires-clause-may
step-requires-clause-may c = app-may (
    let setting = c.args.app.now.board.setting in
    let mine = c.args.app.now.side in
    let next : ℕ → AppSide = λ n. side_user_taken mine c.args.buffer n in
    let at : c.user-word.result ≡ user_word_at setting mine.view.app c.args.buffer = cc in
    record {
      number = λ n. refl;
      making = λ n. refl;
      step = λ ws nic apps rule here small.
          let law = c.app_keeps_the_rule.ensures setting ws nic apps mine (scrubs c.args.buffer) rule here
          (c.requires.at.within, c.requires.at.next, c.requires.at.can.quiet, c.requires.at.can.loans, c.requires.at.can.counted) in (
            clears-user setting ws mine.view.app c.args.buffer c.user-word.result at c.number.ensures.here c.requires.at.within rule
                (of-user setting ws mine.view.app c.args.buffer c.user-word.result at c.number.ensures.here c.requires.at.within rule (λ n. BoardRule setting
                (with_user ws mine.view.app c.args.buffer 0) nic (set apps mine.view.app (next n))) law.rule),
            tt,
          );
    })
