-- The side after the step, by the number that it found.
use Rattle.std.specs.Prelude.{◌+◌, ◌^◌, ◌<◌}
use Rattle.board_face.specs.{AppEvents.{cut}, Sides.{app_at}}
use Rattle.ref_words.specs.Seated.{app_seat_view}
use Rattle.word_board.proofs.kinds.app_counts.cut_piece.Given as goal

abbrev pub ghosts-step : goal.ghosts-step
ghosts-step a = record {
  after = λ _. app_seat_view (app_at a.self.now.side (cut
      a.self.now.side.view a._about.0 a._about.1));
  told = λ _. a._about.0.offset + a._about.0.len < 2 ^ 32;
}
