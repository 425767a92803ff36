-- The listed buffers below this one are there.
use Rattle.std.{proofs.Common.{◌≡◌, ◌++◌}, specs.Prelude.{vec_capacity}}
use Rattle.board_parts.specs.Free.{listed_below}
use Rattle.board_parts.proofs.free.append_listed.Given as goal

abbrev pub invariant-loop-buffer : goal.invariant-loop-buffer
invariant-loop-buffer l = record {
  items : l.free.items ≡ l.fn.free.items ++ listed_below l.listed l.buffer;
  room : vec_capacity l.free ≡ vec_capacity l.fn.free;
}
