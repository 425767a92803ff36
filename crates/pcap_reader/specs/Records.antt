-- The records of a classic pcap capture, and the first fault of its bytes. A file header of 24 bytes is followed by
-- records, each of a header of 16 bytes (seconds, fraction, captured length, original length) and the captured bytes.
use Rattle.std.specs.Prelude.{ℕ, zero, suc, ◌+◌, ◌%◌, List, [], ◌∷◌, length, take, drop, nat_eq, nat_lt, ◌==◌, if◌then◌else◌, not, Option, Some, None}
use Rattle.std.specs.List.{starts_with}
use Rattle.zr_kinds.specs.{Limits.{longest_record}, declared.fault.Fault.{Fault, TheVariants.{NotPcap, Version, LinkType, Cut, LongRecord}}}
use Rattle.byteorder.specs.Endian.{little_number, big_number}
pub use Rattle.pcap_reader.specs.declared.order.ByteOrder.{ByteOrder}
use Rattle.pcap_reader.specs.declared.order.ByteOrder.TheVariants.{Little, Big}

-- the number in the first bytes, so many of them
abbrev pub number : ByteOrder → ℕ → List ℕ → ℕ
number Little n bytes = little_number n bytes
number Big n bytes = big_number n bytes

-- a record: the captured bytes of a frame, and the length that the frame had
pub record Captured : Type 0 where
  pub frame : List ℕ
  pub original : ℕ

-- what bytes hold: their records, and the first fault, if any
pub record Records : Type 0 where
  pub all : List Captured
  pub fault : Option Fault

abbrev pub no_record : Option Fault → Records
no_record fault = record { all = []; fault = fault }

abbrev pub with_record : List ℕ → ℕ → Records → Records
with_record frame original others = record { all = record { frame = frame; original = original } ∷ others.all; fault = others.fault }

-- ---- records

abbrev pub classic_captured_len : ByteOrder → List ℕ → ℕ
classic_captured_len order bytes = number order 4 (drop 8 bytes)

abbrev pub classic_original_len : ByteOrder → List ℕ → ℕ
classic_original_len order bytes = number order 4 (drop 12 bytes)

-- what is wrong with the record that begins here, of at least one byte
abbrev pub record_fault : ByteOrder → List ℕ → Option Fault
record_fault order bytes =
    if nat_lt (length bytes) 16 then Some Cut
    else if nat_lt longest_record (classic_captured_len order bytes) then Some LongRecord
    else if nat_lt (length bytes) (16 + classic_captured_len order bytes) then Some Cut
    else None

-- the fault, or else the record that begins here and the others
abbrev pub after_record : Option Fault → ByteOrder → List ℕ → Records → Records
after_record (Some fault) order bytes others = no_record (Some fault)
after_record None order bytes others =
    with_record (take (classic_captured_len order bytes) (drop 16 bytes)) (classic_original_len order bytes) others

-- the records behind the next so many bytes
unfoldable pub records_behind : ByteOrder → ℕ → List ℕ → Records
records_behind order skip [] = no_record None
records_behind order (suc skip) (byte ∷ bytes) = records_behind order skip bytes
records_behind order zero (byte ∷ bytes) =
    after_record (record_fault order (byte ∷ bytes)) order (byte ∷ bytes)
    (records_behind order (15 + classic_captured_len order (byte ∷ bytes)) bytes)

-- the records of the bytes behind a file header
unfoldable pub records_in : ByteOrder → List ℕ → Records
records_in order bytes = records_behind order 0 bytes

-- ---- the file header

-- Microseconds and nanoseconds alike: times are passed over.
abbrev pub order_of : List ℕ → Option ByteOrder
order_of bytes =
    if starts_with nat_eq bytes (0xd4 ∷ 0xc3 ∷ 0xb2 ∷ 0xa1 ∷ []) then Some Little
    else if starts_with nat_eq bytes (0xa1 ∷ 0xb2 ∷ 0xc3 ∷ 0xd4 ∷ []) then Some Big
    else if starts_with nat_eq bytes (0x4d ∷ 0x3c ∷ 0xb2 ∷ 0xa1 ∷ []) then Some Little
    else if starts_with nat_eq bytes (0xa1 ∷ 0xb2 ∷ 0x3c ∷ 0x4d ∷ []) then Some Big
    else None

-- what is wrong with a file header behind its magic; of the link type the low 16 bits count
abbrev pub fields_fault : ByteOrder → List ℕ → Option Fault
fields_fault order bytes =
    if nat_lt (length bytes) 24 then Some Cut
    else if not (number order 2 (drop 4 bytes) == 2) then Some Version
    else if not (number order 4 (drop 20 bytes) % 65536 == 1) then Some LinkType
    else None

abbrev pub classic_fault_behind : Option ByteOrder → List ℕ → Option Fault
classic_fault_behind None bytes = Some NotPcap
classic_fault_behind (Some order) bytes = fields_fault order bytes

-- what is wrong with the file header at the begin of these bytes; no byte behind it counts
abbrev pub header_fault : List ℕ → Option Fault
header_fault bytes = if nat_lt (length bytes) 4 then Some Cut else classic_fault_behind (order_of bytes) bytes

-- the fault, or else the records
abbrev pub after_header : Option Fault → ByteOrder → List ℕ → Records
after_header (Some fault) order bytes = no_record (Some fault)
after_header None order bytes = records_in order (drop 24 bytes)

abbrev pub behind_magic : Option ByteOrder → List ℕ → Records
behind_magic None bytes = no_record (Some NotPcap)
behind_magic (Some order) bytes = after_header (fields_fault order bytes) order bytes

-- the records of a capture
unfoldable pub classic_records_of : List ℕ → Records
classic_records_of bytes = if nat_lt (length bytes) 4 then no_record (Some Cut) else behind_magic (order_of bytes) bytes
