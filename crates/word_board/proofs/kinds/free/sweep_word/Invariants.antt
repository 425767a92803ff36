-- The side after the step, by the number that it found.
use Rattle.ref_words.specs.{FreeSteps.{IsSwept, side_swept}, Seated.{card_seat_view}}
use Rattle.word_board.proofs.kinds.free.sweep_word.Given as goal

abbrev pub ghosts-step : goal.ghosts-step
ghosts-step a = record {
  after = λ n. card_seat_view (side_swept a.self.now.side a._about n);
  told = λ n. IsSwept a.self.now.side a._about n;
}
