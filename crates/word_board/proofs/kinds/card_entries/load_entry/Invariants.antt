-- The side after the step, by the number that it found.
use Rattle.board_face.specs.SlotSteps.{side_entry_loaded}
use Rattle.ref_words.specs.Seated.{card_seat_view}
use Rattle.word_board.proofs.kinds.card_entries.load_entry.Given as goal

abbrev pub ghosts-step : goal.ghosts-step
ghosts-step a = record { after = λ n. card_seat_view (side_entry_loaded a.self.now.side a._about n); told = λ _. Unit {0} }
