-- The area, line by line: each line has 64 bytes, and a slot of the table. A role takes the lines of a text, stores it there or reads it,
-- and gives them back; meanwhile nobody else has them. A text that is placed begins with a line.
use Rattle.std.specs.{Prelude.{◌≡◌, ℕ, ◌+◌, ◌*◌, ◌/◌, ◌%◌, if◌then◌else◌, Bool, false, ◌&&◌, List, [], ◌∷◌, length, take, drop, nat_le, nat_lt}, List.{flat_map}}
use Rattle.std.specs.Prelude.{slice_index, slice_index_or, slice_set, All, Option, Some, None}
use Rattle.zr_kinds.specs.declared.place.Place.{Place}
use Rattle.area_layout.specs.Layout.{Shape, size_of, first_word, area_words}
use Rattle.board_face.specs.declared.views.parts.Making.{Making}

abbrev pub joined : List (List ℕ) → List ℕ
joined rows = flat_map (λ row. row) rows

-- each of these lines has 64 bytes
abbrev pub AreWide : List (List ℕ) → Type 0
AreWide lines = All (λ line. length line ≡ 64) lines

-- ---- where a line lies

-- how many lines the area has, and the number of a buffer's first one
abbrev pub area_lines : Shape → ℕ
area_lines layout = area_words layout / 8

abbrev pub first_line : Shape → ℕ → ℕ
first_line layout buffer = first_word layout buffer / 8

-- the line that has a buffer's byte at an offset
abbrev pub line_at : Shape → ℕ → ℕ → ℕ
line_at layout buffer offset = first_line layout buffer + offset / 64

-- that byte; past a buffer's end there is none
abbrev pub byte_in_area : Shape → List (List ℕ) → ℕ → ℕ → ℕ
byte_in_area layout area buffer offset =
    if nat_lt offset (size_of layout buffer) then slice_index (slice_index_or area (line_at layout buffer offset) []) (offset % 64) else 0

-- ---- the lines of a place

-- the line in which it begins, and how many lines have bytes of it
abbrev pub begin_line : Shape → Place → ℕ
begin_line layout p = line_at layout p.buffer p.offset

abbrev pub line_count : Place → ℕ
line_count p = (p.offset % 64 + p.len + 63) / 64

-- the line x of its buffer has bytes of it
abbrev pub touches : ℕ → Place → Bool
touches x p = nat_lt p.offset (64 * x + 64) && nat_lt (64 * x) (p.offset + p.len)

-- the line k of the area is one of these lines
abbrev pub has_line : Shape → ℕ → Place → Bool
has_line layout k p = nat_le (begin_line layout p) k && nat_lt k (begin_line layout p + line_count p)

-- what stands in the lines of a place, and the bytes of the place
abbrev pub lines_at : Shape → List (List ℕ) → Place → List (List ℕ)
lines_at layout area p = take (line_count p) (drop (begin_line layout p) area)

abbrev pub text_in : Place → List (List ℕ) → List ℕ
text_in p lines = take p.len (drop (p.offset % 64) (joined lines))

-- the area with other lines, from one on
abbrev pub laid : List (List ℕ) → ℕ → List (List ℕ) → List (List ℕ)
laid area x [] = area
laid area x (line ∷ lines) = laid (slice_set area x line) (x + 1) lines

-- ---- lines that are out

-- a role has the line out, with the text that it stores or reads
abbrev pub has_out : Shape → ℕ → Option Making → Bool
has_out layout k None = false
has_out layout k (Some making) = has_line layout k making.place

-- Whole lines with a text, from the first byte on.
pub record HaveText (lines : List (List ℕ)) (bytes : List ℕ) : Type 0 where
  pub many : length lines ≡ (length bytes + 63) / 64
  pub wide : AreWide lines
  pub text : take (length bytes) (joined lines) ≡ bytes
