use Rattle.std.proofs.{Common.{append_assoc, arith}, lemmas.Grind.{common_steps}}
use Rattle.top_call.specs.Report.{capture_line}
use Rattle.top_call.proofs.lines.CaptureLineDisplay.fmt.Goals as goal

pub returns-clause-writes : goal.returns-clause-writes
unfolding capture_line
returns-clause-writes g c = simp append_assoc (grind (arith, common_steps))
