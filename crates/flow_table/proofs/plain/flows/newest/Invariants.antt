use Rattle.std.proofs.Common.{◌≡◌, ◌≤◌, map, take, length}
use Rattle.frame_headers.specs.Seen.{shown}
use Rattle.flow_table.specs.{Flows.{key_of, newest}, Plain.{flow_shown}}
use Rattle.flow_table.proofs.plain.flows.newest.Given as goal

-- no flow from this number on has the key
abbrev pub invariant-loop-number : goal.invariant-loop-number
invariant-loop-number l = record {
  within : l.number ≤ length l.flows;
  earlier : newest (key_of (shown l.segment)) (map flow_shown l.flows) ≡ newest (key_of (shown l.segment)) (map flow_shown (take l.number l.flows));
}

abbrev pub decreases-loop-number : goal.decreases-loop-number
decreases-loop-number l = l.number
