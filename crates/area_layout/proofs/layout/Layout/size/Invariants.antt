use Rattle.std.proofs.Common.{◌≡◌, ◌≤◌, min, drop, get_or}
use Rattle.area_layout.specs.Layout.{no_area, least_among}
use Rattle.area_layout.proofs.layout.Layout.size.Given as goal

abbrev pub invariant-loop-area : goal.invariant-loop-area
invariant-loop-area l =
    let most = (get_or l.area-items 0 no_area).size in
    record {
      least : least_among most l.area-items ≡ min l.least (least_among most (drop l.area-index l.area-items));
      most : l.least ≤ most;
    }
