use Rattle.std.proofs.Common.{◌≡◌, ◌-◌}
use Rattle.zr_kinds.specs.CopyingReceiver.{missing_within}
use Rattle.flow_table.specs.Plain.{byte_in}
use Rattle.flow_table.proofs.plain.placed.PlainPlaced.next_missing.Given as goal

abbrev pub invariant-loop-position : goal.invariant-loop-position
invariant-loop-position l =
    missing_within (byte_in l.self.bytes.items) (l.self.top - l.position) l.position ≡ missing_within (byte_in l.self.bytes.items) l.self.top 0
