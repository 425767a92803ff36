-- The side after the step, by the number that it found.
use Rattle.board_face.specs.{NicEvents.{took}, NicCalls.{HasNothingIn}, Sides.{nic_at}}
use Rattle.ref_words.specs.Seated.{card_seat_view}
use Rattle.word_board.proofs.kinds.card_counts.take_buffer.Given as goal

abbrev pub ghosts-step : goal.ghosts-step
ghosts-step a = record {
  after = λ _. card_seat_view (nic_at a.self.now.side (took a.self.now.side.view a._about));
  told = λ _. HasNothingIn
      a.self.now.side.view a._about;
}
