-- The buffers that were gone through are there.
use Rattle.std.{proofs.Common.{◌≡◌, ◌++◌, take}, specs.Prelude.{vec_capacity}}
use Rattle.board_parts.proofs.free.append_cached.Given as goal

abbrev pub invariant-loop-buffer : goal.invariant-loop-buffer
invariant-loop-buffer l = record {
  items : l.free.items ≡ l.fn.free.items ++ take l.buffer-index l.buffer-items;
  room : vec_capacity l.free ≡ vec_capacity l.fn.free;
}
