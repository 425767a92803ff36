use Rattle.std.proofs.{Common.{refl}, Output.{has_written_append, has_written_of_eq}}
use Rattle.top_call.{specs.Report.{flow_line}, proofs.Numbered.{numbered_more}}
use Rattle.top_call.proofs.lines.FlowLinesDisplay.fmt.Goals as goal

pub loop-number-preserved : goal.loop-number-preserved
loop-number-preserved g c plain =
    let before = c.loop-number.invariant plain in
    let line = c.in_ok-write.ensures.writes before.plain refl in
    has_written_of_eq _ _ _ _ _ (numbered_more flow_line c.args.self.now.0.now c.loop-number.number _ c.loop-number-test.true)
    (has_written_append _ _ _ _ _ _ before line)
