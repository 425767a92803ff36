-- The side after the step, by the number that it found.
use Rattle.std.specs.Prelude.{◌==◌, ◌≡◌, false}
use Rattle.ref_words.specs.{PhaseSteps.{side_note_sought}, Seated.{app_seat_view}}
use Rattle.board_face.specs.AppEvents.{app_gist}
use Rattle.word_board.specs.Told.{SawNoNote}
use Rattle.word_board.proofs.kinds.phases.seek_note.Given as goal

abbrev pub ghosts-step : goal.ghosts-step
ghosts-step a = record { after = λ n. app_seat_view (side_note_sought a.self.now.side (n == 1)); told = λ n. (n == 1) ≡ false → SawNoNote a.self.now.board.setting (app_gist a.self.now.side.view) }
