use Rattle.std.proofs.Common.{◌≡◌, take}
use Rattle.area_layout.specs.Layout.{buffers_in}
use Rattle.area_layout.proofs.layout.Layout.buffers_before.Given as goal

abbrev pub invariant-loop-area : goal.invariant-loop-area
invariant-loop-area l = l.before ≡ buffers_in (take l.area-index l.area-items)
