-- What one application did leaves the others idle, and the card as it was.
use Rattle.std.proofs.Common.{rules, ◌≡◌}
use Rattle.plain_board.specs.Board.{others_of}
use Rattle.board_runs.proofs.Playing.{IsIdleBoard-app}
use Rattle.board_runs.proofs.searches.one_step.Goals as goal

pub returns : goal.returns
returns c =
    let beside : others_of c.app_step.new.face.board c.app_step.new.face.app ≡ others_of c.args.board c.in-Some.app = search rules in
    rw c.back-3.ensures.board (IsIdleBoard-app c.args.board c.app_step.new.face.board c.in-Some.app c.app_step.new.face.app beside c.requires (c.app_step.ensures.idle (search rules)))
