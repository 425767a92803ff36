-- What the rule says of who is back.
use Rattle.std.specs.Prelude.{◌≤◌, length}
use Rattle.word_board.specs.Desk.{AreOfBoard, AreServed}
use Rattle.word_board.proofs.kinds.desk_looks.look_served.Given as goal

abbrev pub ghosts-step_as : goal.ghosts-step_as
ghosts-step_as a = record {
  after = λ _. a.seat.now.me.0;
  told = λ _. (length a.seat.now.me.0.nics ≤ 1) × AreServed a.seat.now.me.0
      × AreOfBoard a.words.now.shared.key a.seat.now.me.0;
}
