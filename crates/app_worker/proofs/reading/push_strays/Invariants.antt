-- Some were written or dropped, or nothing happened yet.
use Rattle.std.specs.Prelude.{◌≡◌, ◌<◌, true, false}
use Rattle.app_worker.specs.Steps.{PushedSome}
use Rattle.app_worker.proofs.reading.push_strays.Given as goal

abbrev pub invariant-loop-stray : goal.invariant-loop-stray
invariant-loop-stray g l =
    PushedSome (g.F.AppFace.seen l.fn.face) (g.F.AppFace.seen l.face) l.fn.stray l.stray
    × (l.did ≡ true → l.stray.left < l.fn.stray.left)
    × (l.did ≡ false → (g.F.AppFace.seen l.face ≡ g.F.AppFace.seen l.fn.face) × (l.stray ≡ l.fn.stray))
    × (g.F.AppFace.beside l.face ≡ g.F.AppFace.beside l.fn.face)

abbrev pub decreases-loop-stray : goal.decreases-loop-stray
decreases-loop-stray g l = l.stray.left
