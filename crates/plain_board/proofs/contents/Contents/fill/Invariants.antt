-- The application's diary says that the spare was filled.
use Rattle.board_face.specs.{Sides.{app_at, side_in}, AppEvents.{filled}}
use Rattle.plain_board.proofs.contents.Contents.fill.Given as goal

abbrev pub ghosts-note_at : goal.ghosts-note_at
ghosts-note_at a = let x = side_in a.diaries.now.items a.at in record { next = app_at x (filled x.view a.about.0 a.about.1.now) }
