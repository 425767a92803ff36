-- What the plain program keeps of a flow.
use Rattle.std.specs.{Prelude.{ℕ, ◌+◌, ◌^◌, List, nat_eq}, Map.{lookup}}
use Rattle.zr_kinds.specs.CopyingReceiver.{Placed}
use Rattle.flow_queues.specs.Marks.{Mark}

-- each entry is a position and 2^31 more, with its mark; where several are at one, the first counts. From top on none stands
abbrev pub placed_in : List (ℕ × Mark) → ℕ → Placed Mark
placed_in entries top = record { at = λ position. lookup (nat_eq (position + 2 ^ 31)) entries; top = top }
