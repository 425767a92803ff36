-- The application's diary says then that it saw no spare, or was given one.
use Rattle.board_face.specs.{Sides.{app_at, side_in}, AppEvents.{app_saw, got_spare}, declared.views.app.AppLook.TheVariants.{NoSpare}}
use Rattle.plain_board.proofs.contents.Contents.spare.Given as goal

abbrev pub ghosts-note_at : goal.ghosts-note_at
ghosts-note_at a =
    let x = side_in a.diaries.now.items a.at in
    record { next = app_at x (app_saw x.view NoSpare) }

abbrev pub ghosts-note_at-2 : goal.ghosts-note_at-2
ghosts-note_at-2 a =
    let x = side_in a.diaries.now.items a.at in
    record { next = app_at x (got_spare x.view a.about) }
