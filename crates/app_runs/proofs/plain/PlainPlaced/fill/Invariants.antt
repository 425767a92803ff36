use Rattle.std.{proofs.Common.{◌≡◌, ℕ, ◌+◌, ◌^◌, take, nat_eq}, specs.Map.{lookup}}
use Rattle.zr_kinds.specs.CopyingReceiver.{brought, first_of}
use Rattle.app_runs.proofs.plain.PlainPlaced.fill.Given as goal

abbrev pub invariant-loop-i : goal.invariant-loop-i
invariant-loop-i l = record {
  same : l.self.top ≡ l.initial.self.top;
  placed : (p : ℕ) → lookup (nat_eq (p + 2 ^ 31)) l.self.marks.items ≡ first_of (lookup (nat_eq (p + 2 ^ 31)) l.initial.self.marks.items)
      (brought (take l.i l.marks) l.from p);
}
