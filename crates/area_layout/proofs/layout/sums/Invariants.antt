use Rattle.std.proofs.Common.{◌≡◌, ℕ, ◌*◌, ◌≤◌, take, sum_by}
use Rattle.area_layout.proofs.layout.sums.Given as goal

abbrev pub invariant-loop-buffers : goal.invariant-loop-buffers
invariant-loop-buffers l = record {
  all : l.all ≡ sum_by (λ (a : ℕ × ℕ). a.0) (take l.buffers-index l.areas);
  few : l.all ≤ l.buffers-index * 4096;
  bytes : l.bytes ≡ sum_by (λ (a : ℕ × ℕ). a.0 * a.1) (take l.buffers-index l.areas);
  small : l.bytes ≤ l.buffers-index * 268435456;
}
