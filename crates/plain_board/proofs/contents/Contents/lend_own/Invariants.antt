-- What the application's diary says once a spare was lent.
use Rattle.board_face.specs.{Sides.{app_at, side_in}, AppEvents.{lent_own}}
use Rattle.plain_board.proofs.contents.Contents.lend_own.Given as goal

abbrev pub ghosts-note_at : goal.ghosts-note_at
ghosts-note_at a = let x = side_in a.diaries.now.items a.at in record { next = app_at x (lent_own x.view a.about) }
