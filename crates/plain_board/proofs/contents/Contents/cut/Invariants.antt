-- The application's diary says then that it cut the piece.
use Rattle.board_face.specs.{Sides.{app_at, side_in}, AppEvents.{cut}}
use Rattle.plain_board.proofs.contents.Contents.cut.Given as goal

abbrev pub ghosts-note_at : goal.ghosts-note_at
ghosts-note_at a =
    let x = side_in a.diaries.now.items a.at in
    record { next = app_at x (cut x.view a.about.0 a.about.1) }
