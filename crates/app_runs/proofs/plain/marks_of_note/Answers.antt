use Rattle.app_runs.proofs.{Placing.{one-mark-more}}
use Rattle.app_runs.proofs.plain.marks_of_note.Goals as goal

pub loop-place-preserved : goal.loop-place-preserved
loop-place-preserved c =
    one-mark-more c.args.note c.args.len c.loop-place.place c.loop-place.marks.items _ _ c.loop-place-test.true c.in_ok-push.ensures.items
    c.loop-place.invariant
