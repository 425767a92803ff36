-- What a token of a buffer for filling shows, and places that share no byte.
use Rattle.std.specs.Prelude.{◌≡◌, ◌≢◌, ℕ, ◌+◌, ◌*◌, ◌/◌, ◌%◌, ◌≤◌, ◌⊎◌, ◌==◌, ◌&&◌, Bool}
use Rattle.zr_kinds.specs.declared.place.Place.{Place}
use Rattle.board_face.specs.declared.views.parts.Filling.{Filling}

abbrev pub filling : ℕ → ℕ → ℕ → Filling
filling buffer start size = record { buffer = buffer; start = start; size = size }

-- The next bytes begin within the buffer, at a multiple of 64, and so is its size.
pub record FitsBuffer (own : Filling) : Type 0 where
  pub start : own.start ≤ own.size
  pub size : own.size ≤ 65536
  pub whole : own.size % 64 ≡ 0
  pub aligned : own.start % 64 ≡ 0

-- the next multiple of 64
abbrev pub next_start : ℕ → ℕ
next_start used = (used + 63) / 64 * 64

-- the buffer once so many bytes more are used
abbrev pub filled_by : Filling → ℕ → Filling
filled_by own n = record own { start = next_start (own.start + n) }

-- where the next bytes of a buffer lie, so many of them
abbrev pub next_place : Filling → ℕ → Place
next_place own n = record { buffer = own.buffer; offset = own.start; len = n }

-- two fillings are one
abbrev pub same_filling : Filling → Filling → Bool
same_filling x y = (x.buffer == y.buffer) && (x.start == y.start) && (x.size == y.size)

-- the two places share no byte
abbrev pub AreApart : Place → Place → Type 0
AreApart p q = (p.buffer ≢ q.buffer) ⊎ (p.offset + p.len ≤ q.offset) ⊎ (q.offset + q.len ≤ p.offset)
