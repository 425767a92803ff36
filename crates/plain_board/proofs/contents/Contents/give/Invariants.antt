-- What the application's diary says by the answer.
use Rattle.board_face.specs.{Sides.{app_at, side_in}, AppEvents.{app_saw, gave}, declared.views.app.AppLook.TheVariants.{RefillInUse}}
use Rattle.plain_board.proofs.contents.Contents.give.Given as goal

abbrev pub ghosts-note_at : goal.ghosts-note_at
ghosts-note_at a = let x = side_in a.diaries.now.items a.at in record { next = app_at x (app_saw x.view RefillInUse) }

abbrev pub ghosts-note_at-2 : goal.ghosts-note_at-2
ghosts-note_at-2 a = let x = side_in a.diaries.now.items a.at in record { next = app_at x (gave x.view a.about) }
