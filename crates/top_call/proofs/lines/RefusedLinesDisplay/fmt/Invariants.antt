use Rattle.std.{proofs.Common.{take}, specs.{Fmt.{HasWritten, IsPlainFormatter}, List.{flat_map}}}
use Rattle.top_call.specs.Report.{refused_line}
use Rattle.top_call.proofs.lines.RefusedLinesDisplay.fmt.Given as goal

abbrev pub invariant-loop-frame : goal.invariant-loop-frame
invariant-loop-frame g l = IsPlainFormatter l.initial.f → HasWritten g.W.Write.write_str_gives l.initial.f
    (flat_map refused_line (take l.frame-index l.self.0.now)) l.f
