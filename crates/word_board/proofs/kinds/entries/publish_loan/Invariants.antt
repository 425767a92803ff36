-- The side after the step, by the number that it found.
use Rattle.board_face.specs.SlotSteps.{side_gave}
use Rattle.ref_words.specs.Seated.{app_seat_view}
use Rattle.word_board.proofs.kinds.entries.publish_loan.Given as goal

abbrev pub ghosts-step : goal.ghosts-step
ghosts-step a = record { after = λ n. app_seat_view (side_gave a.self.now.side a._about); told = λ _. Unit {0} }
