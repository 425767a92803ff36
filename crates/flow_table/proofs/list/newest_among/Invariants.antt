use Rattle.std.proofs.Common.{◌≡◌, ◌≤◌, map, take, length}
use Rattle.frame_headers.specs.Seen.{shown}
use Rattle.flow_table.specs.{Flows.{key_of, newest}, Kept.{entry_shown}}
use Rattle.flow_table.proofs.list.newest_among.Given as goal

-- no flow from this number on has the key
abbrev pub invariant-loop-number : goal.invariant-loop-number
invariant-loop-number l = record {
  within : l.number ≤ length l.entries;
  earlier : newest (key_of (shown l.segment)) (map entry_shown l.entries) ≡ newest (key_of (shown l.segment)) (map entry_shown (take l.number l.entries));
}

abbrev pub decreases-loop-number : goal.decreases-loop-number
decreases-loop-number l = l.number
