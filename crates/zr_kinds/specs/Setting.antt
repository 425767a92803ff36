-- The setting of a run: its buffers, as areas, and how many applications there are. Pool buffers are numbered from 0
-- through all areas in order. Behind them stand the reserves, one for each application, which have area 0's size.
use Rattle.std.specs.{Prelude.{ℕ, ◌+◌, ◌-◌, ◌*◌, ◌≤◌, List, [], ◌∷◌, length, map, sum, nat_lt, if◌then◌else◌, All}, Int.{IsPowerOfTwo}}
use Rattle.zr_kinds.specs.declared.event.TheConstants.{MOST_EVENTS}

-- each area with its number of pool buffers and their size in bytes
pub record Setting : Type 0 where
  pub areas : List (ℕ × ℕ)
  pub apps : ℕ

abbrev pub buffers_of_areas : List (ℕ × ℕ) → ℕ
buffers_of_areas areas = sum (map (λ area. area.0) areas)

-- how many bytes the pool buffers have together
abbrev pub pool_bytes : List (ℕ × ℕ) → ℕ
pool_bytes areas = sum (map (λ area. area.0 * area.1) areas)

-- how many buffers there are, reserves included
abbrev pub total_buffers : Setting → ℕ
total_buffers setting = buffers_of_areas setting.areas + setting.apps

-- the size of the reserves
abbrev pub first_size : List (ℕ × ℕ) → ℕ
first_size [] = 0
first_size (area ∷ areas) = area.1

-- the size of the buffer with this number in these areas, and `reserve` behind them
abbrev pub size_among : List (ℕ × ℕ) → ℕ → ℕ → ℕ
size_among [] reserve buffer = reserve
size_among (area ∷ areas) reserve buffer = if nat_lt buffer area.0 then area.1 else size_among areas reserve (buffer - area.0)

abbrev pub size_of_buffer : List (ℕ × ℕ) → ℕ → ℕ
size_of_buffer areas buffer = size_among areas (first_size areas) buffer

-- the sizes that a buffer may have
pub record IsSize (size : ℕ) : Type 0 where
  pub power : IsPowerOfTwo size
  pub least : 1024 ≤ size
  pub most : size ≤ 65536

pub record IsRunArea (area : ℕ × ℕ) : Type 0 where
  pub buffers : (1 ≤ area.0) × (area.0 ≤ 4096)
  pub size : IsSize area.1

pub record AreAreas (areas : List (ℕ × ℕ)) : Type 0 where
  pub some : 1 ≤ length areas
  pub most : length areas ≤ 4
  pub each : All IsRunArea areas
  pub buffers : buffers_of_areas areas ≤ 4096
  pub bytes : pool_bytes areas ≤ 67108864

pub record IsSetting (setting : Setting) : Type 0 where
  pub areas : AreAreas setting.areas
  pub apps : (1 ≤ setting.apps) × (setting.apps ≤ 8)

-- how many events a record of a run has at most
abbrev pub most_events : ℕ
most_events = MOST_EVENTS
