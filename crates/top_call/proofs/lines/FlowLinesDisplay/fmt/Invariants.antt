use Rattle.std.{proofs.Common.{take}, specs.Fmt.{HasWritten, IsPlainFormatter}}
use Rattle.top_call.specs.Report.{flow_line, numbered_lines}
use Rattle.top_call.proofs.lines.FlowLinesDisplay.fmt.Given as goal

abbrev pub invariant-loop-number : goal.invariant-loop-number
invariant-loop-number g l = IsPlainFormatter l.initial.f → HasWritten g.W.Write.write_str_gives l.initial.f
    (numbered_lines flow_line (take l.number l.flow-items)) l.f
