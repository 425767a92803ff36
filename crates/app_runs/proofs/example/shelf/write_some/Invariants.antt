-- What is written stands between two turns, for the same application at the same board.
use Rattle.std.specs.Prelude.{◌≡◌, ℕ, List, Option}
use Rattle.zr_io.specs.Moved.{ShelfCounts}
use Rattle.zc_poll.specs.Pouring.{PourStands}
use Rattle.app_runs.proofs.example.shelf.write_some.Given as goal

abbrev pub invariant-loop-turn : goal.invariant-loop-turn
invariant-loop-turn g l = record {
  stands : (first : ℕ → Option (List ℕ)) × (losses : ShelfCounts)
      × PourStands first losses l.work.tally l.work.desk (g.T.Shelf.kept l.work.shelf) (g.T.Shelf.counts l.work.shelf) (g.F.AppFace.seen l.work.face);
  number : (g.F.AppFace.seen l.work.face).app ≡ l.app;
  beside : g.F.AppFace.beside l.work.face ≡ g.F.AppFace.beside l.fn.face;
}
