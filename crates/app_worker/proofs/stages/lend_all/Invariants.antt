-- All that was lent is reaped, and enough of it read.
use Rattle.std.specs.Prelude.{◌≡◌, ◌-◌, ◌<◌, ◌≤◌, true, false, None, length}
use Rattle.app_worker.specs.{State.{app_steps, furthest, queues_of}, StateOf.{state_of}, Moves.{CountsOn}, Stages.{Through, Untouched}}
use Rattle.flow_queues.specs.Active.{HasNext}
use Rattle.app_worker.proofs.stages.lend_all.Given as goal

abbrev pub invariant-loop-end : goal.invariant-loop-end
invariant-loop-end g l =
    Through (state_of l.fn.st) (state_of l.st) (g.F.AppFace.seen l.fn.face) (g.F.AppFace.seen l.face) (g.T.Shelf.kept l.fn.shelf) (g.T.Shelf.kept l.shelf)
    × (l.st.due ≡ None)
    × (l.did ≡ true → app_steps (state_of l.fn.st) (g.F.AppFace.seen l.fn.face) < app_steps (state_of l.st) (g.F.AppFace.seen l.face))
    × (l.did ≡ false → Untouched (state_of l.fn.st) (state_of l.st) (g.F.AppFace.seen l.fn.face) (g.F.AppFace.seen l.face) (g.T.Shelf.kept l.fn.shelf)
    (g.T.Shelf.kept l.shelf))
    × ((g.T.Shelf.counts l.shelf).faults ≡ (g.T.Shelf.counts l.fn.shelf).faults)
    × (g.F.AppFace.beside l.face ≡ g.F.AppFace.beside l.fn.face)
    × (length l.st.reader.unread.items ≤ l.st.how.hold)
    × (l.st.stray.left ≡ 0)
    × (l.st.reader.flush ≡ false)
    × (l.did ≡ true → HasNext (queues_of (state_of l.fn.st)))
    × CountsOn l.fn.st.tally.written l.st.tally.written (g.T.Shelf.counts l.fn.shelf).appended (g.T.Shelf.counts l.shelf).appended

abbrev pub decreases-loop-end : goal.decreases-loop-end
decreases-loop-end g l = furthest l.st.how.stray (g.F.AppFace.seen l.face) - app_steps (state_of l.st) (g.F.AppFace.seen l.face)
