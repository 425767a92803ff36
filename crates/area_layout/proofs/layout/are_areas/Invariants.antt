use Rattle.std.proofs.Common.{ℕ, ◌<◌, get_or}
use Rattle.area_layout.specs.Layout.{IsArea}
use Rattle.area_layout.proofs.layout.are_areas.Given as goal

abbrev pub invariant-loop-buffers : goal.invariant-loop-buffers
invariant-loop-buffers l =
    (k : ℕ) (d : ℕ × ℕ) → k < l.buffers-index → let a = get_or l.areas k d in IsArea a.0 a.1
