-- What was taken out is behind the others.
use Rattle.std.specs.Prelude.{◌≡◌, ◌++◌, length}
use Rattle.app_worker.specs.StateOf.{state_of}
use Rattle.app_worker.proofs.stages.reap_all.Given as goal

abbrev pub invariant-loop-entry : goal.invariant-loop-entry
invariant-loop-entry l =
    (l.st.reader.unread.items ++ l.st.posted.entries ≡ l.fn.st.reader.unread.items ++ l.fn.st.posted.entries)
    × (state_of l.st ≡ record (state_of l.fn.st) { unread = l.st.reader.unread.items; posted = l.st.posted })
    × (l.st.posted.places ≡ l.fn.st.posted.places)

abbrev pub decreases-loop-entry : goal.decreases-loop-entry
decreases-loop-entry l = length l.st.posted.entries
