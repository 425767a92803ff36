-- What the application's diary says by the answer.
use Rattle.std.specs.Prelude.{if◌then◌else◌}
use Rattle.board_face.specs.{Sides.{app_at, side_in}, AppEvents.{fell_quiet, app_saw}, declared.views.app.AppLook.TheVariants.{NotQuiet}}
use Rattle.plain_board.proofs.contents.Contents.quiet.Given as goal

abbrev pub ghosts-note_at : goal.ghosts-note_at
ghosts-note_at a =
    let x = side_in a.diaries.now.items a.at in
    record { next = app_at x (if a.about then fell_quiet x.view else app_saw x.view NotQuiet) }
