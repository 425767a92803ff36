use Rattle.std.proofs.Common.{◌≡◌, ℕ, ◌*◌, ◌≤◌, take, sum_by}
use Rattle.command_words.proofs.areas.fit_together.Given as goal

abbrev pub invariant-loop-buffers : goal.invariant-loop-buffers
invariant-loop-buffers l = record {
  number : l.number ≡ sum_by (λ (a : ℕ × ℕ). a.0) (take l.buffers-index l.areas);
  few : l.number ≤ 4096;
  bytes : l.bytes ≡ sum_by (λ (a : ℕ × ℕ). a.0 * a.1) (take l.buffers-index l.areas);
  small : l.bytes ≤ 67108864;
}
