use Rattle.std.{proofs.Common.{◌≡◌, ◌+◌, ◌*◌, ◌≤◌, ◌∷◌, ◌++◌, take}, specs.{Fmt.{decimal}, List.{flat_map}}}
use Rattle.arrayvec.specs.ArrayString.{array_string_len}
use Rattle.top_call.proofs.record.put_line.Given as goal

abbrev pub invariant-loop-number : goal.invariant-loop-number
invariant-loop-number l =
    (l.block.bytes ≡ l.initial.block.bytes ++ flat_map (λ n. 32 ∷ decimal n) (take l.number-index l.numbers))
    × (array_string_len l.block ≤ array_string_len l.initial.block + 11 * l.number-index)
