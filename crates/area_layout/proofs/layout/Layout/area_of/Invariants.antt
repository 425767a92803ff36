use Rattle.std.proofs.Common.{◌≡◌, ◌+◌, ◌≤◌, take, drop, length}
use Rattle.area_layout.specs.Layout.{buffers_in, areas_before}
use Rattle.area_layout.proofs.layout.Layout.area_of.Given as goal

abbrev pub invariant-loop-number : goal.invariant-loop-number
invariant-loop-number l = record {
  within : l.number ≤ length l.area-items;
  passed : buffers_in (take l.number l.area-items) + l.left ≡ l.buffer;
  before : areas_before l.area-items l.buffer ≡ l.number + areas_before (drop l.number l.area-items) l.left;
}
