-- The side after the step, by the number that it found.
use Rattle.board_face.specs.{AppCalls.{HasNoneIn}, Steps.{side_spare_begun}}
use Rattle.ref_words.specs.Seated.{app_seat_view}
use Rattle.word_board.proofs.kinds.app_counts.take_reserve.Given as goal

abbrev pub ghosts-step : goal.ghosts-step
ghosts-step a = record {
  after = λ _. app_seat_view (side_spare_begun a.self.now.side a._about);
  told = λ _. HasNoneIn a.self.now.side.view a._about;
}
