use Rattle.std.{proofs.Common.{◌≡◌, ◌+◌, ◌*◌, ◌≤◌, ◌∷◌, ◌++◌, take}, specs.List.{flat_map}}
use Rattle.arrayvec.specs.ArrayString.{array_string_len}
use Rattle.zr_kinds.specs.RunText.{area_text}
use Rattle.top_call.proofs.record.put_areas.Given as goal

abbrev pub invariant-loop-area : goal.invariant-loop-area
invariant-loop-area l =
    (l.block.bytes ≡ l.initial.block.bytes ++ flat_map (λ a. 44 ∷ area_text a) (take l.area-index l.rest))
    × (array_string_len l.block ≤ array_string_len l.initial.block + 22 * l.area-index)
