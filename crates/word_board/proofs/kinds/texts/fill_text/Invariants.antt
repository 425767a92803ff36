-- The lines of the text, and the application's side while it has them and once they have it.
use Rattle.std.specs.Prelude.{◌+◌, ◌/◌, [], length}
use Rattle.board_face.specs.AppEvents.{begin_place}
use Rattle.ref_words.specs.{AreaSteps.{making_in_hand, side_at_hand, side_spare_filled}, Seated.{app_seat_view}}
use Rattle.word_board.proofs.kinds.texts.fill_text.Given as goal

abbrev pub ghosts-store_text : goal.ghosts-store_text
ghosts-store_text a = record {
  first = a.first;
  many = (length a.bytes.now + 63) / 64;
  begun = λ _. app_seat_view (side_at_hand a.self.now.side (making_in_hand (begin_place a._about.0.buffer (length a.bytes.now)) []));
  done = λ _. app_seat_view (side_spare_filled (side_at_hand a.self.now.side (making_in_hand (begin_place a._about.0.buffer (length a.bytes.now)) [])) a._about.0 a.bytes.now);
  told = λ _. Unit {0};
}
