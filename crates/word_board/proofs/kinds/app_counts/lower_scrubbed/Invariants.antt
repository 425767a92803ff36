-- The side after the step, by the number that it found.
use Rattle.std.specs.Prelude.{◌==◌}
use Rattle.board_face.specs.Steps.{side_owes_lowered}
use Rattle.ref_words.specs.Seated.{app_seat_view}
use Rattle.word_board.proofs.kinds.app_counts.lower_scrubbed.Given as goal

abbrev pub ghosts-step : goal.ghosts-step
ghosts-step a = record { after = λ n. app_seat_view (side_owes_lowered a.self.now.side a._about.0 (n == a._about.1)); told = λ _. Unit {0} }
