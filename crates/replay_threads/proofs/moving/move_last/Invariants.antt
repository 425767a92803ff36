-- What was moved so far stands behind what there was, the last first.
use Rattle.std.specs.Prelude.{◌≡◌, ◌+◌, ◌-◌, ◌≤◌, ◌++◌, reverse, vec_len, vec_capacity}
use Rattle.replay_threads.proofs.moving.move_last.Given as goal

abbrev pub invariant-loop-from : goal.invariant-loop-from
invariant-loop-from g l = record {
  keep : l.keep ≤ vec_len l.from;
  room : vec_len l.to + (vec_len l.from - l.keep) ≤ vec_capacity l.to;
  many : vec_len l.to + vec_len l.from ≡ vec_len l.fn.to + vec_len l.fn.from;
  moved : l.to.items ++ reverse l.from.items ≡ l.fn.to.items ++ reverse l.fn.from.items;
  capacity : vec_capacity l.from ≡ vec_capacity l.fn.from;
}

abbrev pub decreases-loop-from : goal.decreases-loop-from
decreases-loop-from g l = vec_len l.from
