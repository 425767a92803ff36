use Rattle.std.proofs.Common.{◌≡◌, ◌≤◌, ◌*◌, take}
use Rattle.zr_kinds.specs.Setting.{buffers_of_areas}
use Rattle.run_check.proofs.setting.pool_buffers.Given as goal

abbrev pub invariant-loop-area : goal.invariant-loop-area
invariant-loop-area l = record {
  sum : l.total ≡ buffers_of_areas (take l.area-index l.areas);
  most : l.total ≤ 4096 * l.area-index;
}
