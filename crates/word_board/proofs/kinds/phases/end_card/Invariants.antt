-- The side after the step, by the number that it found.
use Rattle.ref_words.specs.{PhaseSteps.{side_ended}, Seated.{card_seat_view}}
use Rattle.word_board.proofs.kinds.phases.end_card.Given as goal

abbrev pub ghosts-step : goal.ghosts-step
ghosts-step a = record { after = λ _. card_seat_view (side_ended a.self.now.side); told = λ _. Unit {0} }
