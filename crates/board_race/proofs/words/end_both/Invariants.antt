-- What is out stays with the receiver.
use Rattle.board_race.specs.Halves.{IsReceiver}
use Rattle.board_race.proofs.words.end_both.Given as goal

abbrev pub invariant-loop : goal.invariant-loop
invariant-loop g l = IsReceiver (g.A.AppFace.seen l.seat) l.receiver.loan
