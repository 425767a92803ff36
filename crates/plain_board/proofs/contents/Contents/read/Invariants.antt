-- What the application's diary says once bytes were read.
use Rattle.board_face.specs.{Sides.{app_at, side_in}, AppEvents.{has_read}}
use Rattle.plain_board.proofs.contents.Contents.read.Given as goal

abbrev pub ghosts-note_at : goal.ghosts-note_at
ghosts-note_at a = let x = side_in a.diaries.now.items a.at in record { next = app_at x (has_read x.view a.about.0 a.about.1 a.about.2.now) }
