use Rattle.std.proofs.Common.{◌≡◌, ◌+◌, ◌++◌, map, drop, length, ◌≤◌}
use Rattle.frame_headers.specs.Seen.{segment_seen}
use Rattle.flow_table.specs.{Steered.{steered_from, steered_of}, Plain.{steered_shown}}
use Rattle.flow_table.proofs.plain.steered.steered_of.Given as goal

-- what is steered so far and what is steered of the rest make the whole
abbrev pub invariant-loop-one : goal.invariant-loop-one
invariant-loop-one l = record {
  counted : l.record_number ≡ l.one-index;
  within : l.one-index ≤ length l.seen;
  whole : map steered_shown l.steered.items ++ steered_from l.ports (l.one-index + 1) (map segment_seen (drop l.one-index l.seen)) ≡ steered_of l.ports
      (map segment_seen l.seen);
}
