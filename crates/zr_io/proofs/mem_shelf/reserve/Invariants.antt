use Rattle.std.proofs.Common.{◌≡◌, [], replicate}
use Rattle.zr_io.specs.Reserved.{AreReserved, bytes_of}
use Rattle.zr_io.proofs.mem_shelf.reserve.Given as goal

abbrev pub invariant-loop-index : goal.invariant-loop-index
invariant-loop-index l = record {
  empty : bytes_of l.flows.items ≡ replicate l._index [];
  reserved : AreReserved l.room l.flows.items;
}
