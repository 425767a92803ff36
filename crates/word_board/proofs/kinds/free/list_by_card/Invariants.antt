-- The side after the step, by the number that it found.
use Rattle.ref_words.specs.{FreeSteps.{side_nic_listed}, Seated.{card_seat_view}}
use Rattle.word_board.proofs.kinds.free.list_by_card.Given as goal

abbrev pub ghosts-step : goal.ghosts-step
ghosts-step a = record { after = λ _. card_seat_view (side_nic_listed a.self.now.side a._about); told = λ _. Unit {0} }
