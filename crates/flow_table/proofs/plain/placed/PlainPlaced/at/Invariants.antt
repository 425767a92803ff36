use Rattle.std.proofs.Common.{◌≡◌, drop}
use Rattle.flow_table.specs.Plain.{byte_in}
use Rattle.flow_table.proofs.plain.placed.PlainPlaced.at.Given as goal

abbrev pub invariant-loop-one : goal.invariant-loop-one
invariant-loop-one l = byte_in (drop l.one-index l.self.bytes.items) l.position ≡ byte_in l.self.bytes.items l.position
