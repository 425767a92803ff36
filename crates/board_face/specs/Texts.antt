-- Notes, and the bytes that they tell of.
use Rattle.std.specs.Prelude.{◌≡◌, ℕ, ◌+◌, ◌-◌, ◌≤◌, true, false, if◌then◌else◌, List, drop, sum_by}
use Rattle.zr_kinds.specs.{Limits.{longest_payload}, declared.place.{Note.{Note}, Place.{Place}}}
use Rattle.board_face.specs.declared.views.app.Origin.{Origin, TheVariants.{Note as of_note, Copied as of_copy}}

-- the fields of a note that tells of a piece in the area
pub record IsSplitNote (note : Note) : Type 0 where
  pub split : note.split ≡ true
  pub within : note.at + note.place.len ≤ note.total
  pub bounded : note.total ≤ longest_payload

-- the fields of a note in which the whole payload travels
pub record IsLinearNote (note : Note) : Type 0 where
  pub split : note.split ≡ false
  pub some_bytes : 1 ≤ note.total
  pub few_bytes : note.total ≤ 256
  pub from_begin : note.at ≡ 0
  pub place : note.place ≡ record { buffer = 0; offset = 0; len = note.total }

-- how many bytes travelled in these notes
abbrev pub unsplit_bytes : List Note → ℕ
unsplit_bytes notes = sum_by (λ note. if note.split then 0 else note.total) notes

-- where the bytes come from that lie so many bytes further on
abbrev pub further : Origin → ℕ → Origin
further (of_note k at) n = of_note k (at + n)
further (of_copy bytes) n = of_copy (drop n bytes)

-- the first bytes of a place, so many of them
abbrev pub front_place : Place → ℕ → Place
front_place p n = record p { len = n }

-- and the rest
abbrev pub rest_place : Place → ℕ → Place
rest_place p n = record { buffer = p.buffer; offset = p.offset + n; len = p.len - n }
