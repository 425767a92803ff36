-- The lines that have these bytes, the application's side while it has them and once it gave them back, and what it knows of a copied text.
use Rattle.std.specs.Prelude.{◌+◌, ◌/◌, length, None}
use Rattle.board_face.specs.{AppCalls.{ShowsCopy}, AppEvents.{loan_origin}}
use Rattle.ref_words.specs.{AreaSteps.{part_of, side_at_hand, side_read}, Lines.{text_in}, Seated.{app_seat_view}}
use Rattle.word_board.proofs.kinds.reads.read_text.Given as goal

abbrev pub ghosts-read_text : goal.ghosts-read_text
ghosts-read_text a = record {
  first = a.first;
  many = (a.skip + length a.into.now + 63) / 64;
  begun = λ lines. app_seat_view (side_read a.self.now.side a._about.0 a._about.1 a._about.2 lines);
  done = λ lines. app_seat_view (side_at_hand (side_read a.self.now.side a._about.0 a._about.1 a._about.2 lines) None);
  told = λ lines. ShowsCopy (loan_origin a.self.now.side.view a._about.0) a._about.1 (text_in (part_of a._about.0 a._about.1 a._about.2) lines);
}
