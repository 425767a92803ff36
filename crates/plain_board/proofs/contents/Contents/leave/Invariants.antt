-- The application's diary says that it left.
use Rattle.board_face.specs.{Sides.{app_at, side_in}, AppEvents.{left_board}}
use Rattle.plain_board.proofs.contents.Contents.leave.Given as goal

abbrev pub ghosts-note_at : goal.ghosts-note_at
ghosts-note_at a = let x = side_in a.diaries.now.items a.at in record { next = app_at x (left_board x.view) }
