-- What is poured stands between two turns.
use Rattle.std.specs.Prelude.{ℕ, List, Option, Some}
use Rattle.zr_io.specs.{Memory.{kept_of}, Moved.{ShelfCounts}}
use Rattle.zc_poll.specs.Pouring.{PourStands}
use Rattle.app_runs.proofs.pouring.pours_by_turns.Given as goal

abbrev pub invariant-loop-turn : goal.invariant-loop-turn
invariant-loop-turn g l = (first : ℕ → Option (List ℕ)) × (losses : ShelfCounts)
    × PourStands first losses l.work.tally l.work.desk (λ flow. Some (kept_of l.work.shelf flow)) (record { faults = l.work.shelf.faults; appended = l.work.shelf.appended }) l.work.face.side.view
