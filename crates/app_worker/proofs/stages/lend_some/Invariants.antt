-- Some were lent, or nothing happened yet.
use Rattle.std.specs.Prelude.{◌≡◌, ◌-◌}
use Rattle.app_worker.{specs.{State.{app_steps, furthest}, StateOf.{state_of}}, proofs.LentSoFar.{LentSoFar}}
use Rattle.app_worker.proofs.stages.lend_some.Given as goal

abbrev pub invariant-loop-did : goal.invariant-loop-did
invariant-loop-did g l =
    LentSoFar (state_of l.fn.st) (state_of l.st) (g.F.AppFace.seen l.fn.face) (g.F.AppFace.seen l.face) l.did
    × (g.F.AppFace.beside l.face ≡ g.F.AppFace.beside l.fn.face)

abbrev pub decreases-loop-did : goal.decreases-loop-did
decreases-loop-did g l = furthest l.st.how.stray (g.F.AppFace.seen l.face) - app_steps (state_of l.st) (g.F.AppFace.seen l.face)
