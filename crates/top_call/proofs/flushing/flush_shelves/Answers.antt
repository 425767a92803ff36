-- One shelf more was flushed.
use Rattle.std.proofs.{Common.{arith}, lemmas.Option.{slice_get-get_or}}
use Rattle.top_call.proofs.Flushed.{flushes-one}
use Rattle.top_call.proofs.flushing.flush_shelves.Goals as goal

pub loop-app-preserved : goal.loop-app-preserved
loop-app-preserved g c =
    flushes-one g.T.Shelf.kept g.T.Shelf.counts c.loop-app.app c.args.shelves.now c.loop-app.shelves c.args.lines.now c.loop-app.lines
    c.loop-app.lost c.flush_shelf-lost.result _ c.flush_shelf-lost.new.shelf _ c.flush_shelf-lost.new.line c.loop-app.invariant
    (slice_get-get_or c.loop-app.shelves c.loop-app.app c.index-shelves-app.result (omega arith))
    (slice_get-get_or c.loop-app.lines c.loop-app.app _ (omega arith))
    c.flush_shelf-lost.ensures.keeps c.flush_shelf-lost.ensures.later c.flush_shelf-lost.ensures.appended c.flush_shelf-lost.ensures.flushed
