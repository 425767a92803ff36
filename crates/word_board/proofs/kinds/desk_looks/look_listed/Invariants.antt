-- A buffer's bit tells whether it is cached, once all are back.
use Rattle.std.specs.{Prelude.{◌≡◌, ◌+◌, ◌%◌, ◌==◌, if◌then◌else◌, nat_eq, count_by}, Int.{bit_at}}
use Rattle.board_face.specs.NicEvents.{word_bits}
use Rattle.word_board.specs.Board.{card_of_seat}
use Rattle.word_board.proofs.kinds.desk_looks.look_listed.Given as goal

abbrev pub ghosts-step_as : goal.ghosts-step_as
ghosts-step_as a = record {
  after = λ _. a.seat.now.me.0;
  told = λ n. count_by (nat_eq a._about) (card_of_seat a.seat.now.me.0).view.cache + (if bit_at n (a._about % word_bits) == 1 then 1 else 0) ≡ 1;
}
