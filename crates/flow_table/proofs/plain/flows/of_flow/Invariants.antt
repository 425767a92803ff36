use Rattle.std.proofs.Common.{◌≡◌, ◌++◌, map, drop}
use Rattle.flow_table.specs.{Flows.{of_flow_after, of_flow}, Plain.{flow_shown, steered_shown}}
use Rattle.flow_table.proofs.plain.flows.of_flow.Given as goal

abbrev pub invariant-loop-one : goal.invariant-loop-one
invariant-loop-one l =
    map steered_shown l.ours.items ++ of_flow_after l.number (map flow_shown l.flows.items)
    (map steered_shown (drop l.one-index l.steered)) ≡ of_flow l.number (map steered_shown l.steered)
