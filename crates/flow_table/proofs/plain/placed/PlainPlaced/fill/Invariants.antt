use Rattle.std.proofs.Common.{◌≡◌, ℕ, take}
use Rattle.zr_kinds.specs.CopyingReceiver.{brought, first_of}
use Rattle.flow_table.specs.Plain.{byte_in}
use Rattle.flow_table.proofs.plain.placed.PlainPlaced.fill.Given as goal

abbrev pub invariant-loop-i : goal.invariant-loop-i
invariant-loop-i l = record {
  same : l.self.top ≡ l.initial.self.top;
  placed : (p : ℕ) → byte_in l.self.bytes.items p ≡ first_of (byte_in l.initial.self.bytes.items p) (brought (take l.i l.values) l.from p);
}
