use Rattle.std.proofs.Common.{◌≡◌, ℕ, ◌-◌, ◌^◌, ◌<◌, ◌≤◌, true}
use Rattle.tcp_reorder.specs.{Queue.{is_kept}, Pieces.{all_kept}}
use Rattle.tcp_reorder.proofs.piece.first_free.Given as goal

abbrev pub invariant-loop-position : goal.invariant-loop-position
invariant-loop-position g l = record {
  above : l.from ≤ l.position;
  low : l.position ≤ 2 ^ 62;
  kept : (p : ℕ) → l.from ≤ p → p < l.position → is_kept (all_kept l.pieces.entries) p ≡ true;
}

abbrev pub decreases-loop-position : goal.decreases-loop-position
decreases-loop-position g l = l.limit - l.position
