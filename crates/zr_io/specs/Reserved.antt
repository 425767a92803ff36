-- The lists in which a shelf over memory keeps its flows.
use Rattle.std.specs.{Prelude.{ℕ, ◌≤◌, List, map, length, All}, Vec.{vec_capacity}, Global.{Vec}}

-- each list is within the room, and has the memory for it
abbrev pub AreReserved : ℕ → List (Vec ℕ) → Type 0
AreReserved room flows = All (λ v. (length v.items ≤ room) × (room ≤ vec_capacity v)) flows

-- the bytes in each list
abbrev pub bytes_of : List (Vec ℕ) → List (List ℕ)
bytes_of flows = map (λ v. v.items) flows
