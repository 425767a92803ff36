use Rattle.std.proofs.{Common.{refl}, Output.{has_written_append, has_written_of_eq}}
use Rattle.top_call.{proofs.Numbered.{mapped_more}, specs.Report.{refused_line}}
use Rattle.top_call.proofs.lines.RefusedLinesDisplay.fmt.Goals as goal

pub loop-frame-preserved : goal.loop-frame-preserved
loop-frame-preserved g c plain =
    let before = c.loop-frame.invariant plain in
    let line = c.in_ok-write.ensures.writes before.plain refl in
    has_written_of_eq _ _ _ _ _ (mapped_more refused_line c.args.self.now.0.now c.loop-frame.frame-index _ c.loop-frame-test.true)
    (has_written_append _ _ _ _ _ _ before line)
