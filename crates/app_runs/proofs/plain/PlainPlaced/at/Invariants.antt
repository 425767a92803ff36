-- what is found from here on is what is found in all
use Rattle.std.{proofs.Common.{◌≡◌, nat_eq, drop}, specs.Map.{lookup}}
use Rattle.app_runs.proofs.plain.PlainPlaced.at.Given as goal

abbrev pub invariant-loop-other : goal.invariant-loop-other
invariant-loop-other l = lookup (nat_eq l.place) (drop l.other-index l.self.marks.items) ≡ lookup (nat_eq l.place) l.self.marks.items
