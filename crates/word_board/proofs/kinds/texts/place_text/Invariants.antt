-- The lines of the piece, and the card's side while it has them and once they have the text.
use Rattle.std.specs.Prelude.{◌≡◌, ◌+◌, ◌/◌, length}
use Rattle.board_face.specs.{FineSteps.{side_text_done}, Steps.{side_begun}, Tokens.{next_place}}
use Rattle.ref_words.specs.{Lines.{line_count}, Seated.{card_seat_view}}
use Rattle.word_board.proofs.kinds.texts.place_text.Given as goal

abbrev pub ghosts-store_text : goal.ghosts-store_text
ghosts-store_text a = record {
  first = a.first;
  many = (length a.bytes.now + 63) / 64;
  begun = λ _. card_seat_view (side_begun a.self.now.side a._about.0 (length a.bytes.now));
  done = λ _. card_seat_view (side_text_done (side_begun a.self.now.side a._about.0 (length a.bytes.now)) a._about.0 a.bytes.now);
  told = λ _. line_count (next_place a._about.0 (length a.bytes.now)) ≡ (length a.bytes.now + 63) / 64;
}
