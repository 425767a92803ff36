-- The side after the step, by the number that it found.
use Rattle.board_face.specs.{Texts.{IsLinearNote}, SlotSteps.{side_took_linear}}
use Rattle.ref_words.specs.{Rings.{loaded_note, loaded_bytes}, Seated.{app_seat_view}}
use Rattle.word_board.proofs.kinds.taken_notes.free_linear.Given as goal

abbrev pub ghosts-step : goal.ghosts-step
ghosts-step a = record {
  after = λ n. app_seat_view (side_took_linear a.self.now.side (loaded_note a.self.now.side) (loaded_bytes a.self.now.side));
  told = λ _. IsLinearNote (loaded_note a.self.now.side);
}
