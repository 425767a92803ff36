use Rattle.std.proofs.Common.{◌≡◌, ◌+◌, drop, get_or}
use Rattle.area_layout.{specs.Layout.{no_area}, proofs.Areas.{bytes_upto}}
use Rattle.area_layout.proofs.layout.Layout.begin_of.Given as goal

abbrev pub invariant-loop-area : goal.invariant-loop-area
invariant-loop-area l =
    let size = (get_or l.area-items 0 no_area).size in
    bytes_upto size l.area-items l.buffer ≡ l.bytes + bytes_upto size (drop l.area-index l.area-items) l.left
