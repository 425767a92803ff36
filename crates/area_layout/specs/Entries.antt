-- The entries of the rings as bytes: one field after another, each a number of so many bytes, the lowest byte first.
use Rattle.std.specs.{Prelude.{ℕ, List, [], ◌∷◌, ◌++◌, drop, ◌==◌, if◌then◌else◌, Option, Some, None}, Int.{w32, cast_signed, cast_unsigned}}
use Rattle.byteorder.specs.Endian.{little_bytes, little_number}
use Rattle.zr_kinds.specs.declared.ring.{Rqe.{Rqe}, Completion.{Completion}}

pub record Field : Type 0 where
  pub width : ℕ
  pub number : ℕ

abbrev pub field : ℕ → ℕ → Field
field width number = record { width = width; number = number }

abbrev pub bytes_of_fields : List Field → List ℕ
bytes_of_fields [] = []
bytes_of_fields (first ∷ fields) = little_bytes first.width first.number ++ bytes_of_fields fields

-- ---- the completion: user_data, res as two's complement, flags, off, and 8 bytes of 0

abbrev pub completion_fields : Completion → List Field
completion_fields c =
    field 8 c.user_data ∷ field 4 (cast_unsigned w32 c.res) ∷ field 4 c.flags ∷ field 8 c.off ∷ field 8 0 ∷ []

abbrev pub completion_bytes : Completion → List ℕ
completion_bytes c = bytes_of_fields (completion_fields c)

abbrev pub completion_of : List ℕ → Completion
completion_of bytes = record {
  user_data = little_number 8 bytes;
  res = cast_signed w32 (little_number 4 (drop 8 bytes));
  flags = little_number 4 (drop 12 bytes);
  off = little_number 8 (drop 16 bytes);
}

abbrev pub completion_read : List ℕ → Option Completion
completion_read bytes = if little_number 8 (drop 24 bytes) == 0 then Some (completion_of bytes) else None

-- ---- the refill entry: off, len, pad

abbrev pub refill_fields : Rqe → List Field
refill_fields e = field 8 e.off ∷ field 4 e.len ∷ field 4 e.pad ∷ []

abbrev pub refill_bytes : Rqe → List ℕ
refill_bytes e = bytes_of_fields (refill_fields e)

abbrev pub refill_of : List ℕ → Rqe
refill_of bytes = record {
  off = little_number 8 bytes;
  len = little_number 4 (drop 8 bytes);
  pad = little_number 4 (drop 12 bytes);
}
