use Rattle.std.{proofs.Common.{refl}, specs.List.{IsDistinct}}
use Rattle.capture_runs.proofs.flows.table.Goals as goal

pub new-requires-2-clause-distinct : goal.new-requires-2-clause-distinct
unfolding IsDistinct
new-requires-2-clause-distinct c _ = ((refl, tt), (tt, tt))
