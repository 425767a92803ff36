-- The side after the step, by the number that it found.
use Rattle.std.specs.Prelude.{◌==◌}
use Rattle.ref_words.specs.{FreeSteps.{side_word_looked}, Seated.{app_seat_view}}
use Rattle.board_face.specs.AppEvents.{app_gist}
use Rattle.word_board.specs.Told.{SawFree}
use Rattle.word_board.proofs.kinds.free.look_free_word.Given as goal

abbrev pub ghosts-step : goal.ghosts-step
ghosts-step a = record { after = λ n. app_seat_view (side_word_looked a.self.now.side a._about (n == 0)); told = λ n. SawFree a.self.now.board.setting (app_gist a.self.now.side.view) a._about n }
