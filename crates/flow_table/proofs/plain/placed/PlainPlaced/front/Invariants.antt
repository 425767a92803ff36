use Rattle.std.proofs.Common.{◌≡◌, ◌-◌, ◌++◌}
use Rattle.zr_kinds.specs.CopyingReceiver.{values_from, front_of}
use Rattle.flow_table.specs.Plain.{byte_in, placed_shown}
use Rattle.flow_table.proofs.plain.placed.PlainPlaced.front.Given as goal

abbrev pub invariant-loop-position : goal.invariant-loop-position
invariant-loop-position l = l.front.items ++ values_from (byte_in l.self.bytes.items) (l.self.top - l.position) l.position ≡ front_of (placed_shown l.self)
