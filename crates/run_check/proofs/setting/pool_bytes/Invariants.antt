use Rattle.std.proofs.Common.{◌≡◌, ◌≤◌, ◌*◌, take}
use Rattle.zr_kinds.specs.Setting.{pool_bytes}
use Rattle.run_check.proofs.setting.pool_bytes.Given as goal

abbrev pub invariant-loop-area : goal.invariant-loop-area
invariant-loop-area l = record {
  sum : l.total ≡ pool_bytes (take l.area-index l.areas);
  most : l.total ≤ 268435456 * l.area-index;
}
