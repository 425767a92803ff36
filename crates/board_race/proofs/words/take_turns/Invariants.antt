-- Each half has out what its side says.
use Rattle.std.specs.Prelude.{◌≡◌, length}
use Rattle.board_race.specs.Halves.{IsSender, IsReceiver}
use Rattle.board_race.proofs.words.take_turns.Given as goal

abbrev pub invariant-loop : goal.invariant-loop
invariant-loop g l =
    IsSender (g.N.NicFace.seen l.nic) l.sender.own l.sender.piece
    × IsReceiver (g.A.AppFace.seen l.seat) l.receiver.loan
    × (length l.text ≡ length l.fn.text)
