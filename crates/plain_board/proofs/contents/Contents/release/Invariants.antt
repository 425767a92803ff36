-- The application's diary says then that it gave the piece up.
use Rattle.board_face.specs.{Sides.{app_at, side_in}, AppEvents.{released}}
use Rattle.plain_board.proofs.contents.Contents.release.Given as goal

abbrev pub ghosts-note_at : goal.ghosts-note_at
ghosts-note_at a =
    let x = side_in a.diaries.now.items a.at in
    record { next = app_at x (released x.view a.about) }
