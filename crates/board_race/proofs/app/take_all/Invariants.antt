-- What is out stays with the receiver.
use Rattle.std.specs.Prelude.{◌≡◌}
use Rattle.board_race.specs.Halves.{IsReceiver}
use Rattle.board_race.proofs.app.take_all.Given as goal

abbrev pub invariant-loop : goal.invariant-loop
invariant-loop g l =
    IsReceiver (g.F.AppFace.seen l.face) l.receiver.loan
    × (g.F.AppFace.beside l.face ≡ g.F.AppFace.beside l.fn.face)
