use Rattle.std.proofs.{Common.{append_assoc, arith}, lemmas.Grind.{common_steps}}
use Rattle.top_call.specs.Report.{pool_line}
use Rattle.top_call.proofs.lines.PoolLineDisplay.fmt.Goals as goal

pub returns-clause-writes : goal.returns-clause-writes
unfolding pool_line
returns-clause-writes g c = simp append_assoc (grind (arith, common_steps))
