use Rattle.std.proofs.Common.{◌≡◌, map, drop}
use Rattle.flow_table.specs.{Flows.{flows_after, flows_of}, Plain.{flow_shown, steered_shown}}
use Rattle.flow_table.proofs.plain.flows.flows_of.Given as goal

abbrev pub invariant-loop-one : goal.invariant-loop-one
invariant-loop-one l = flows_after (map flow_shown l.flows.items) (map steered_shown (drop l.one-index l.steered)) ≡ flows_of (map steered_shown l.steered)
