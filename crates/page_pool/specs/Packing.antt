-- Packing: where a payload that is split goes. It goes whole to the current buffer, at the next multiple of 64 behind what is
-- used, where it fits there. Otherwise it fills fresh buffers from their begin, one after another. (Linux
-- networking/page_pool: fragments of a page.) It is over numbers alone.
use Rattle.std.specs.{Prelude.{ℕ, zero, suc, ◌+◌, ◌-◌, nat_le, min, Bool, false, if◌then◌else◌, List, [], ◌∷◌, length, Option, Some, None}, Int.{div_ceil}}
use Rattle.board_face.specs.Tokens.{next_start}

-- the current buffer: how many of its bytes are used, and how many it has
pub record Current : Type 0 where
  pub used : ℕ
  pub size : ℕ

-- the current buffer, or the fresh one of this number, from 0
pub data Target : Type 0 where
  current : Target
  fresh : ℕ → Target

-- a part of a payload: its buffer, where it begins there, and how many bytes it has
pub record PayloadPart : Type 0 where
  pub target : Target
  pub offset : ℕ
  pub len : ℕ

-- so many bytes fit into the current buffer
abbrev pub fits : Option Current → ℕ → Bool
fits None len = false
fits (Some own) len = nat_le (next_start own.used + len) own.size

-- how many buffers of this size so many bytes fill
abbrev pub buffers_for : ℕ → ℕ → ℕ
buffers_for size len = div_ceil len size

-- how many fresh buffers `len` bytes need, where none has fewer than `least` bytes
abbrev pub needed : ℕ → Option Current → ℕ → ℕ
needed least own len = if fits own len then 0 else buffers_for least len

-- fresh buffers of these sizes, from the one of this number on: each is filled from 0 up to its own size, until all is placed
abbrev pub fresh_parts : ℕ → List ℕ → ℕ → List PayloadPart
fresh_parts number [] len = []
fresh_parts number (size ∷ sizes) zero = []
fresh_parts number (size ∷ sizes) (suc rest) =
    record { target = fresh number; offset = 0; len = min size (suc rest) } ∷ fresh_parts (suc number) sizes (suc rest - size)

-- the part in the current buffer
abbrev pub current_part : Option Current → ℕ → List PayloadPart
current_part None len = []
current_part (Some own) len = record { target = current; offset = next_start own.used; len = len } ∷ []

-- the packing of `len` bytes, where fresh buffers of these sizes are taken in this order as long as bytes are left
abbrev pub packing : Option Current → List ℕ → ℕ → List PayloadPart
packing own sizes len = if fits own len then current_part own len else fresh_parts 0 sizes len

-- how many of these fresh buffers are taken
abbrev pub taken : Option Current → List ℕ → ℕ → ℕ
taken own sizes len = if fits own len then 0 else length (fresh_parts 0 sizes len)
