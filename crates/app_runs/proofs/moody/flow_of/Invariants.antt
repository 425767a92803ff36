-- What is found from here on is what is found in all.
use Rattle.std.{proofs.Common.{◌≡◌, nat_eq, drop}, specs.Map.{lookup}}
use Rattle.app_runs.proofs.moody.flow_of.Given as goal

abbrev pub invariant-loop-other : goal.invariant-loop-other
invariant-loop-other l = lookup (nat_eq l.tag) (drop l.other-index l.out) ≡ lookup (nat_eq l.tag) l.out
