-- So many shelves were flushed.
use Rattle.run_account.specs.Views.{shelf_seen}
use Rattle.top_call.specs.Flushing.{Flushes}
use Rattle.top_call.proofs.flushing.flush_shelves.Given as goal

abbrev pub invariant-loop-app : goal.invariant-loop-app
invariant-loop-app g l = Flushes (shelf_seen g.T.Shelf.kept g.T.Shelf.counts) l.app l.initial.shelves l.shelves l.initial.lines l.lines l.lost
