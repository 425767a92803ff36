-- The side after the step, by the number that it found.
use Rattle.board_face.specs.SlotSteps.{side_note_stored}
use Rattle.ref_words.specs.Seated.{card_seat_view}
use Rattle.word_board.proofs.kinds.notes.store_note.Given as goal

abbrev pub ghosts-step : goal.ghosts-step
ghosts-step a = record { after = λ n. card_seat_view (side_note_stored a.self.now.side a._about.0 a._about.1); told = λ _. Unit {0} }
