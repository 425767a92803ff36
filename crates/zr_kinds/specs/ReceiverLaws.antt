-- What the definition of the copying receiver says, in the field's own words.
use Rattle.std.specs.{Prelude.{◌≡◌, ℕ, ◌+◌, ◌-◌, ◌%◌, ◌^◌, ◌<◌, pos, ◌+ℤ◌, List, [], ◌∷◌, map, None, IsSome, option_map}, Int.{cast_signed}}
use mir.Syntax.{w32}
use Rattle.zr_kinds.specs.CopyingReceiver.{Placed, nothing_placed, next_missing, lead, received, front_of}

-- s less base and n, modulo 2^32
abbrev pub distance : ℕ → ℕ → ℕ → ℕ
distance base n s = (s + 2 ^ 32 - (base + n) % 2 ^ 32) % 2 ^ 32

-- `lead` less 2^31 is the 32-bit distance, read as a signed number
abbrev pub LeadIsSignedDistance : Type 0
LeadIsSignedDistance = (base n s : ℕ) → s < 2 ^ 32 → pos (lead base n s) ≡ cast_signed w32 (distance base n s) +ℤ pos (2 ^ 31)

-- what stands after pieces were received, each with its sequence number
abbrev pub received_in_turn : {A : Type 0} → ℕ → Placed A → List (ℕ × List A) → Placed A
received_in_turn base placed [] = placed
received_in_turn base placed (piece ∷ pieces) = received_in_turn base (received base placed piece.0 piece.1) pieces

-- none stands at the position, and one stands at each before it
pub record IsLeastMissing {A : Type 0} (placed : Placed A) (position : ℕ) : Type 0 where
  pub missing : placed.at position ≡ None
  pub before : (p : ℕ) → p < position → IsSome (placed.at p)

-- `next_missing` is the least position where none stands, whatever was received
abbrev pub NextMissingIsLeast : Type 0 → Type 0
NextMissingIsLeast A = (base : ℕ) (pieces : List (ℕ × List A))
    → IsLeastMissing (received_in_turn base nothing_placed pieces) (next_missing (received_in_turn base nothing_placed pieces))

-- the pieces with each value mapped
abbrev pub mapped_pieces : {A B : Type 0} → (A → B) → List (ℕ × List A) → List (ℕ × List B)
mapped_pieces f [] = []
mapped_pieces f (piece ∷ pieces) = (piece.0, map f piece.1) ∷ mapped_pieces f pieces

-- the same positions are taken, each by the mapped value
pub record IsMapped {A B : Type 0} (f : A → B) (placed : Placed A) (mapped : Placed B) : Type 0 where
  pub at : (p : ℕ) → mapped.at p ≡ option_map f (placed.at p)
  pub next : next_missing mapped ≡ next_missing placed
  pub front : front_of mapped ≡ map f (front_of placed)

-- The receiver looks at no value: of mapped values it has what it has of the values, mapped.
abbrev pub LooksAtNoValue : Type 0 → Type 0 → Type 0
LooksAtNoValue A B = (f : A → B) (base : ℕ) (pieces : List (ℕ × List A))
    → IsMapped f (received_in_turn base nothing_placed pieces) (received_in_turn base nothing_placed (mapped_pieces f pieces))
