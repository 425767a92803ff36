-- The side after the step, by the number that it found.
use Rattle.std.specs.Prelude.{◌==◌, ◌≡◌, false}
use Rattle.board_face.specs.{SlotSteps.{side_refill_looked}, AppEvents.{app_gist}}
use Rattle.word_board.specs.Told.{SawRefillInUse}
use Rattle.ref_words.specs.Seated.{app_seat_view}
use Rattle.word_board.proofs.kinds.entries.look_refill.Given as goal

abbrev pub ghosts-step : goal.ghosts-step
ghosts-step a = record { after = λ n. app_seat_view (side_refill_looked a.self.now.side (n == 0)); told = λ n. (n == 0) ≡ false → SawRefillInUse a.self.now.board.setting (app_gist a.self.now.side.view) }
