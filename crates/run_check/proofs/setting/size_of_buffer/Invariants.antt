use Rattle.std.proofs.Common.{◌≡◌, drop}
use Rattle.zr_kinds.specs.Setting.{first_size, size_among}
use Rattle.run_check.proofs.setting.size_of_buffer.Given as goal

abbrev pub invariant-loop-area : goal.invariant-loop-area
invariant-loop-area l =
    size_among l.areas (first_size l.areas) l.fn.buffer ≡ size_among (drop l.area-index l.areas) (first_size l.areas) l.rest
