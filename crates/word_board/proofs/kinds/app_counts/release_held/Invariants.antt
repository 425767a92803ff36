-- The side after the step, by the number that it found.
use Rattle.std.specs.Prelude.{◌==◌}
use Rattle.board_face.specs.Steps.{side_released}
use Rattle.ref_words.specs.Seated.{app_seat_view}
use Rattle.word_board.proofs.kinds.app_counts.release_held.Given as goal

abbrev pub ghosts-step : goal.ghosts-step
ghosts-step a = record { after = λ n. app_seat_view (side_released a.self.now.side a._about (n == 1)); told = λ _. Unit {0} }
