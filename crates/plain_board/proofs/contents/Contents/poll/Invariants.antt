-- What the application's diary says by the answer.
use Rattle.std.specs.Prelude.{take}
use Rattle.board_face.specs.{Sides.{app_at, side_in}, AppEvents.{took_note, took_linear}}
use Rattle.plain_board.proofs.Polling.{ended_if}
use Rattle.plain_board.proofs.contents.Contents.poll.Given as goal

abbrev pub ghosts-note_at : goal.ghosts-note_at
ghosts-note_at a =
    let x = side_in a.diaries.now.items a.at in
    record { next = app_at x (ended_if x.view a.about) }

abbrev pub ghosts-note_at-2 : goal.ghosts-note_at-2
ghosts-note_at-2 a =
    let x = side_in a.diaries.now.items a.at in
    record { next = app_at x (took_note x.view a.about) }

abbrev pub ghosts-note_at-3 : goal.ghosts-note_at-3
ghosts-note_at-3 a =
    let x = side_in a.diaries.now.items a.at in
    record { next = app_at x (took_linear x.view a.about.0 (take a.about.0.total a.about.1)) }
