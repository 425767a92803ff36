-- What some captures hold, computed.
use Rattle.std.proofs.Common.{◌≡◌, ℕ, List, [], ◌∷◌, ◌++◌, take, drop, Some, None, refl}
use Rattle.zr_kinds.specs.declared.fault.Fault.TheVariants.{NotPcap, Version, LinkType, Cut, LongRecord}
use Rattle.pcap_reader.specs.Records.{no_record, with_record, classic_records_of, records_in, records_behind}

abbrev zeros : List ℕ
zeros = 0 ∷ 0 ∷ 0 ∷ 0 ∷ 0 ∷ 0 ∷ 0 ∷ 0 ∷ []

-- a little-endian file header of a major version and a link type's two halves
abbrev header : ℕ → ℕ → ℕ → List ℕ
header version low high =
    (0xd4 ∷ 0xc3 ∷ 0xb2 ∷ 0xa1 ∷ version ∷ 0 ∷ 4 ∷ 0 ∷ []) ++ zeros ++ (0 ∷ 0 ∷ 4 ∷ 0 ∷ low ∷ 0 ∷ high ∷ 0 ∷ [])

-- a little-endian record's header of a captured length's two lowest bytes and its third, and an original length
abbrev stating : ℕ → ℕ → ℕ → List ℕ
stating captured third original = zeros ++ (captured ∷ 0 ∷ third ∷ 0 ∷ original ∷ 0 ∷ 0 ∷ 0 ∷ [])

one_record : classic_records_of (header 2 1 0 ++ stating 2 0 60 ++ 7 ∷ 9 ∷ []) ≡ with_record (7 ∷ 9 ∷ []) 60 (no_record None)
unfolding classic_records_of records_in records_behind
one_record = refl

no_magic : classic_records_of (0xd4 ∷ 0xc3 ∷ 0xb2 ∷ []) ≡ no_record (Some Cut)
unfolding classic_records_of
no_magic = refl

other_magic : classic_records_of (0x0a ∷ 0x0d ∷ 0x0d ∷ 0x0a ∷ []) ≡ no_record (Some NotPcap)
unfolding classic_records_of
other_magic = refl

other_version : classic_records_of (header 3 1 0) ≡ no_record (Some Version)
unfolding classic_records_of
other_version = refl

other_link : classic_records_of (header 2 113 0) ≡ no_record (Some LinkType)
unfolding classic_records_of
other_link = refl

-- the upper half of the link type is passed over
upper_half : classic_records_of (header 2 1 1) ≡ no_record None
unfolding classic_records_of records_in records_behind
upper_half = refl

-- what stands behind a big-endian magic, with one record
abbrev big_rest : List ℕ
big_rest = (0 ∷ 2 ∷ 0 ∷ 4 ∷ []) ++ zeros ++ (0 ∷ 4 ∷ 0 ∷ 0 ∷ 0 ∷ 0 ∷ 0 ∷ 1 ∷ []) ++ zeros
    ++ (0 ∷ 0 ∷ 0 ∷ 2 ∷ 0 ∷ 0 ∷ 0 ∷ 60 ∷ 7 ∷ 9 ∷ [])

big_endian : classic_records_of (0xa1 ∷ 0xb2 ∷ 0xc3 ∷ 0xd4 ∷ big_rest) ≡ with_record (7 ∷ 9 ∷ []) 60 (no_record None)
unfolding classic_records_of records_in records_behind
big_endian = refl

big_nanoseconds : classic_records_of (0xa1 ∷ 0xb2 ∷ 0x3c ∷ 0x4d ∷ big_rest) ≡ with_record (7 ∷ 9 ∷ []) 60 (no_record None)
unfolding classic_records_of records_in records_behind
big_nanoseconds = refl

little_nanoseconds : classic_records_of ((0x4d ∷ 0x3c ∷ 0xb2 ∷ 0xa1 ∷ []) ++ drop 4 (header 2 1 0) ++ stating 2 0 60 ++ 7 ∷ 9 ∷ [])
    ≡ with_record (7 ∷ 9 ∷ []) 60 (no_record None)
unfolding classic_records_of records_in records_behind
little_nanoseconds = refl

-- 262,145 bytes are one too many
too_long : classic_records_of (header 2 1 0 ++ stating 1 4 60) ≡ no_record (Some LongRecord)
unfolding classic_records_of records_in records_behind
too_long = refl

headless : classic_records_of (header 2 1 0 ++ take 15 (stating 2 0 60)) ≡ no_record (Some Cut)
unfolding classic_records_of records_in records_behind
headless = refl

bodiless : classic_records_of (header 2 1 0 ++ stating 3 0 60 ++ 7 ∷ 9 ∷ []) ≡ no_record (Some Cut)
unfolding classic_records_of records_in records_behind
bodiless = refl
