use Rattle.std.proofs.Common.{◌≡◌, ap, ◌∙◌, arith}
use Rattle.board_face.specs.{declared.views.app.AppSide.{AppSide}, Steps.{side_user_taken}}
use Rattle.word_board.{specs.Board.{TheApp}, proofs.Scrubs.{took-nothing}}
use Rattle.word_board.proofs.kinds.scrubs.scrub_one.Goals as goal

pub returns-else-n-gt0-clause-event : goal.returns-else-n-gt0-clause-event
returns-else-n-gt0-clause-event c =
    let mine : AppSide = c.args.app.now.side in
    let n = c.scrub_user-n.result in
    let is : c.scrub_user-n.new.app.side ≡ side_user_taken mine c.args.buffer n = ap (λ (me : TheApp). me.side) c.scrub_user-n.ensures in
    record {
      took = 0;
      event = is ∙ took-nothing _ mine c.args.buffer n (omega (arith, c.if-n-gt0.false)) c.requires.lists c.requires.at.within c.requires.clear;
    }
