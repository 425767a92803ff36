-- The application's diary says what the scrub takes of each buffer.
use Rattle.board_face.{proofs.AppLemmas.{scrubbed_side}, specs.Sides.{side_in}}
use Rattle.plain_board.proofs.Scrubbing.{took_of}
use Rattle.plain_board.proofs.contents.Contents.scrub.Given as goal

abbrev pub ghosts-note_at : goal.ghosts-note_at
ghosts-note_at a = let x = side_in a.diaries.now.items a.at in record { next = scrubbed_side x (took_of x.view.setting.layout a.at a.about.now) }
