-- The side after the step, by the number that it found.
use Rattle.std.specs.Prelude.{◌==◌}
use Rattle.board_face.specs.Steps.{side_shut}
use Rattle.ref_words.specs.Seated.{card_seat_view}
use Rattle.word_board.proofs.kinds.card_counts.shut_own.Given as goal

abbrev pub ghosts-step : goal.ghosts-step
ghosts-step a = record { after = λ n. card_seat_view (side_shut a.self.now.side a._about (n == 1)); told = λ _. Unit {0} }
