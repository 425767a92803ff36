-- The side after the step, by the number that it found.
use Rattle.board_face.specs.SlotSteps.{side_slot_loaded}
use Rattle.ref_words.specs.Seated.{app_seat_view}
use Rattle.word_board.proofs.kinds.taken_notes.load_slot.Given as goal

abbrev pub ghosts-step : goal.ghosts-step
ghosts-step a = record { after = λ n. app_seat_view (side_slot_loaded a.self.now.side n); told = λ _. Unit {0} }
