-- What the application's diary says by the answer.
use Rattle.std.specs.Prelude.{if◌then◌else◌}
use Rattle.board_face.specs.{Sides.{app_at, side_in}, AppEvents.{came_to_rest, app_saw}, declared.views.app.AppLook.TheVariants.{RawOnItsWay}}
use Rattle.plain_board.proofs.contents.Contents.settle.Given as goal

abbrev pub ghosts-note_at : goal.ghosts-note_at
ghosts-note_at a =
    let x = side_in a.diaries.now.items a.at in
    record { next = app_at x (if a.about then came_to_rest x.view else app_saw x.view RawOnItsWay) }
