-- The rings so far are empty.
use Rattle.std.proofs.Common.{◌≡◌, ◌≤◌, ◌-◌, replicate, [], vec_len}
use Rattle.circular_buffer.specs.Buffer.{buffer}
use Rattle.board_parts.proofs.ring_list.rings.Given as goal

abbrev pub invariant-made : goal.invariant-made
invariant-made g l = record {
  few : vec_len l.rings ≤ l.count;
  empty : l.rings.items ≡ replicate (vec_len l.rings) (buffer [] l.places);
}

abbrev pub decreases-made : goal.decreases-made
decreases-made g l = l.count - vec_len l.rings
