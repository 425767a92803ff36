-- How memory is cut into buffers, and how an offset names a place in it. The memory is one to four areas, each with buffers
-- of one size. Buffers are numbered from 0: first those of the pool, through all areas in order, then one reserve for each
-- application. The reserves lie in area 0 behind its pool buffers and have their size.
use Rattle.std.specs.Prelude.{◌≡◌, ℕ, zero, suc, ◌+◌, ◌-◌, ◌*◌, ◌/◌, ◌%◌, ◌^◌, ◌<◌, ◌≤◌, ◌≢◌, ◌⊎◌, ◌==◌, ◌&&◌, nat_lt, min}
use Rattle.std.specs.{Prelude.{if◌then◌else◌, Option, Some, None, List, [], ◌∷◌, length, take, get_or, sum_by, All}, Int.{IsPowerOfTwo}}
use Rattle.zr_kinds.specs.declared.{place.Place.{Place}, ring.Rqe.{Rqe}}
use Rattle.area_layout.specs.declared.layout.Area.{Area}

-- a layout as its callers see it: four areas, of which those that aren't there have 0 buffers of 0 bytes and stand last
pub record Shape : Type 0 where
  pub areas : List Area
  pub reserves : ℕ

abbrev pub area : ℕ → ℕ → Area
area buffers size = record { buffers = buffers; size = size }

abbrev pub no_area : Area
no_area = area 0 0

-- the area of this number, by the list of numbers of buffers and their sizes
abbrev pub listed_area : List (ℕ × ℕ) → ℕ → Area
listed_area areas n = let listed = get_or areas n (0, 0) in area listed.0 listed.1

abbrev pub shape_of_areas : List (ℕ × ℕ) → ℕ → Shape
shape_of_areas areas reserves = record {
  areas = listed_area areas 0 ∷ listed_area areas 1 ∷ listed_area areas 2 ∷ listed_area areas 3 ∷ [];
  reserves = reserves;
}

-- the shape of one area
abbrev pub shape_of : ℕ → ℕ → ℕ → Shape
shape_of buffers reserves size = shape_of_areas ((buffers, size) ∷ []) reserves

-- ---- what makes a layout

pub record IsBufferSize (size : ℕ) : Type 0 where
  pub power : IsPowerOfTwo size
  pub least : 1024 ≤ size
  pub most : size ≤ 65536

abbrev pub buffers_in : List Area → ℕ
buffers_in areas = sum_by (λ (a : Area). a.buffers) areas

abbrev pub bytes_in : List Area → ℕ
bytes_in areas = sum_by (λ (a : Area). a.buffers * a.size) areas

-- how many buffers the pool has
abbrev pub pool_buffers : Shape → ℕ
pool_buffers shape = buffers_in shape.areas

abbrev pub area_at : Shape → ℕ → Area
area_at shape n = get_or shape.areas n no_area

pub record IsLayout (shape : Shape) : Type 0 where
  pub four : length shape.areas ≡ 4
  pub first : 1 ≤ (area_at shape 0).buffers
  pub sizes : (n : ℕ) → 1 ≤ (area_at shape n).buffers → IsBufferSize (area_at shape n).size
  pub missing : (n : ℕ) → (area_at shape n).buffers ≡ 0 → (area_at shape n ≡ no_area) × (area_at shape (n + 1) ≡ no_area)
  pub buffers : pool_buffers shape ≤ 4096
  pub bytes : bytes_in shape.areas ≤ 67108864
  pub reserves : (1 ≤ shape.reserves) × (shape.reserves ≤ 8)

-- a number of pool buffers, and a size that they may have
pub record IsArea (buffers size : ℕ) : Type 0 where
  pub some : (1 ≤ buffers) × (buffers ≤ 4096)
  pub fits : IsBufferSize size

-- these areas, each by its number of buffers and their size, and so many reserves make a layout: that of their shape
pub record MakeLayout (areas : List (ℕ × ℕ)) (reserves : ℕ) : Type 0 where
  pub few : (1 ≤ length areas) × (length areas ≤ 4)
  pub each : All (λ (a : ℕ × ℕ). IsArea a.0 a.1) areas
  pub buffers : sum_by (λ (a : ℕ × ℕ). a.0) areas ≤ 4096
  pub bytes : sum_by (λ (a : ℕ × ℕ). a.0 * a.1) areas ≤ 67108864
  pub kept : (1 ≤ reserves) × (reserves ≤ 8)

-- ---- buffers

-- how many buffers there are, reserves included
abbrev pub all_buffers : Shape → ℕ
all_buffers shape = pool_buffers shape + shape.reserves

-- how many areas end at or before this buffer
abbrev pub areas_before : List Area → ℕ → ℕ
areas_before [] buffer = 0
areas_before (a ∷ areas) buffer = if nat_lt buffer a.buffers then 0 else suc (areas_before areas (buffer - a.buffers))

-- the number of the area in which a buffer lies
abbrev pub area_of_buffer : Shape → ℕ → ℕ
area_of_buffer shape buffer = if nat_lt buffer (pool_buffers shape) then areas_before shape.areas buffer else 0

abbrev pub size_of : Shape → ℕ → ℕ
size_of shape buffer = (area_at shape (area_of_buffer shape buffer)).size

-- how many pool buffers lie in the areas before this one
abbrev pub buffers_before : Shape → ℕ → ℕ
buffers_before shape n = buffers_in (take n shape.areas)

-- a buffer's number in its own area
abbrev pub number_in_area : Shape → ℕ → ℕ
number_in_area shape buffer =
    if nat_lt buffer (pool_buffers shape)
    then buffer - buffers_before shape (area_of_buffer shape buffer)
    else (area_at shape 0).buffers + (buffer - pool_buffers shape)

-- the least of the sizes of areas that are there, none of which is above `most`
abbrev pub least_among : ℕ → List Area → ℕ
least_among most [] = most
least_among most (a ∷ areas) = if a.buffers == 0 then least_among most areas else min a.size (least_among most areas)

-- the least size of a buffer
abbrev pub least_size : Shape → ℕ
least_size shape = least_among (area_at shape 0).size shape.areas

-- how many bytes the buffers before this one have, by the order of their numbers
abbrev pub begin_of : Shape → ℕ → ℕ
begin_of shape zero = 0
begin_of shape (suc buffer) = begin_of shape buffer + size_of shape buffer

-- how many words of 8 bytes they have: the number of this buffer's first word
abbrev pub first_word : Shape → ℕ → ℕ
first_word shape buffer = begin_of shape buffer / 8

-- how many words all buffers have
abbrev pub area_words : Shape → ℕ
area_words shape = first_word shape (all_buffers shape)

-- ---- offsets: the upper 16 bits are the number of an area, and the low 48 bits a place in it

abbrev pub area_of : ℕ → ℕ
area_of off = off / 2 ^ 48

abbrev pub place_in : ℕ → ℕ
place_in off = off % 2 ^ 48

-- the place lies in one buffer
pub record LiesIn (shape : Shape) (place : Place) : Type 0 where
  pub buffer : place.buffer < all_buffers shape
  pub bytes : place.offset + place.len ≤ size_of shape place.buffer

-- how many bytes the buffers of its own area have that lie before this one
abbrev pub begin_in_area : Shape → ℕ → ℕ
begin_in_area shape buffer = number_in_area shape buffer * size_of shape buffer

-- the offset of a place
abbrev pub off_of : Shape → Place → ℕ
off_of shape place = area_of_buffer shape place.buffer * 2 ^ 48 + (begin_in_area shape place.buffer + place.offset)

-- how many bytes an area has, reserves included; one that isn't there has none
abbrev pub end_of_area : Shape → ℕ → ℕ
end_of_area shape n = ((area_at shape n).buffers + (if n == 0 then shape.reserves else 0)) * (area_at shape n).size

-- the entry names no buffer: a pad, no area, or a place at or past the end of its area
abbrev pub IsVoid : Shape → Rqe → Type 0
IsVoid shape entry = (entry.pad ≢ 0) ⊎ (end_of_area shape (area_of entry.off) ≤ place_in entry.off)

-- the buffer of this number in an area: behind its pool buffers lie the reserves
abbrev pub buffer_in : Shape → ℕ → ℕ → ℕ
buffer_in shape n number =
    if nat_lt number (area_at shape n).buffers
    then buffers_before shape n + number
    else pool_buffers shape + (number - (area_at shape n).buffers)

-- the buffer that an entry names
abbrev pub judged : Shape → Rqe → Option ℕ
judged shape entry =
    let n = area_of entry.off in
    if (entry.pad == 0) && nat_lt (place_in entry.off) (end_of_area shape n)
    then Some (buffer_in shape n (place_in entry.off / (area_at shape n).size))
    else None
