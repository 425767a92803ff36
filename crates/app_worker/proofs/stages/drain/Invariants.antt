-- Some were read and given back, or nothing happened yet.
use Rattle.std.specs.Prelude.{◌⊎◌, ◌≡◌, ◌≢◌, ◌<◌, ◌≤◌, true, false, None, [], length}
use Rattle.app_worker.specs.{State.{app_steps}, StateOf.{state_of}, Moves.{CountsOn}, Stages.{Through, Untouched, kept_unread}}
use Rattle.app_worker.proofs.stages.drain.Given as goal

abbrev pub invariant-loop-face : goal.invariant-loop-face
invariant-loop-face g l =
    Through (state_of l.fn.st) (state_of l.st) (g.F.AppFace.seen l.fn.face) (g.F.AppFace.seen l.face) (g.T.Shelf.kept l.fn.shelf) (g.T.Shelf.kept l.shelf)
    × (l.st.due ≡ None)
    × (l.did ≡ true → app_steps (state_of l.fn.st) (g.F.AppFace.seen l.fn.face) < app_steps (state_of l.st) (g.F.AppFace.seen l.face))
    × (l.did ≡ false → Untouched (state_of l.fn.st) (state_of l.st) (g.F.AppFace.seen l.fn.face) (g.F.AppFace.seen l.face) (g.T.Shelf.kept l.fn.shelf)
    (g.T.Shelf.kept l.shelf))
    × ((g.T.Shelf.counts l.shelf).faults ≡ (g.T.Shelf.counts l.fn.shelf).faults)
    × (g.F.AppFace.beside l.face ≡ g.F.AppFace.beside l.fn.face)
    × (l.least ≡ kept_unread l.fn.keep (state_of l.fn.st))
    × (l.did ≡ true → l.least ≤ length l.st.reader.unread.items)
    × (l.st.reader.flush ≡ true → (l.fn.st.reader.flush ≡ true) × (l.did ≡ true → l.st.reader.unread.items ≢ []))
    × (l.st.reader.flush ≡ false → (l.fn.st.reader.flush ≡ false) ⊎ (l.st.reader.unread.items ≡ []))
    × (l.st.stray.left ≡ 0)
    × CountsOn l.fn.st.tally.written l.st.tally.written (g.T.Shelf.counts l.fn.shelf).appended (g.T.Shelf.counts l.shelf).appended

abbrev pub decreases-loop-face : goal.decreases-loop-face
decreases-loop-face g l = length l.st.reader.unread.items
