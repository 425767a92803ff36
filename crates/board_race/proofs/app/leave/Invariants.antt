-- It has nothing out, and was told the end.
use Rattle.std.specs.Prelude.{◌≡◌, true, None}
use Rattle.board_race.specs.Halves.{IsReceiver}
use Rattle.board_race.proofs.app.leave.Given as goal

abbrev pub invariant-loop : goal.invariant-loop
invariant-loop g l =
    IsReceiver (g.F.AppFace.seen l.face) None
    × ((g.F.AppFace.seen l.face).ended ≡ true)
    × ((g.F.AppFace.seen l.face).app ≡ (g.F.AppFace.seen l.fn.face).app)
    × (g.F.AppFace.beside l.face ≡ g.F.AppFace.beside l.fn.face)
