-- The side after the step, by the number that it found.
use Rattle.ref_words.specs.{PhaseSteps.{side_abandoned}, Seated.{app_seat_view}}
use Rattle.word_board.proofs.kinds.phases.abandon_loan.Given as goal

abbrev pub ghosts-step : goal.ghosts-step
ghosts-step a = record { after = λ _. app_seat_view (side_abandoned a.self.now.side a._about); told = λ _. Unit {0} }
