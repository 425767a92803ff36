use Rattle.std.{proofs.Common.{◌≡◌, nat_eq, drop}, specs.Map.{lookup}}
use Rattle.zr_io.proofs.calls.entry_for.Given as goal

abbrev pub invariant-loop-number : goal.invariant-loop-number
invariant-loop-number l = lookup (nat_eq l.call) (drop l.number-index l.fails) ≡ lookup (nat_eq l.call) l.fails
