-- What opening a capture and reading its next record say.
use Rattle.std.specs.{Prelude.{◌≡◌, ℕ, ◌<◌, ◌≤◌, List, ◌++◌, length, Option, Some, None, Result, Ok, Err, IsErrOf, IfSome, ◌⊎◌}, Io.KnownBytes.{Keeps, IsAtEnd}}
use Rattle.zr_kinds.specs.{Limits.{longest_record}, declared.fault.Fault.{Fault, TheVariants.{Memory, NotPcap, Version, LinkType, Cut, LongRecord, Read, BadBlock}}}
use Rattle.zr_io.specs.Moved.{Rose, Took}
use Rattle.pcap_reader.specs.Records.{ByteOrder, Records, no_record, with_record, classic_captured_len, header_fault, records_in, classic_records_of}
use Rattle.pcap_reader.specs.declared.capture.Record.{Record}

-- a capture as its callers see it: the order of its numbers, and the fault that ended its reading
pub record ClassicReading : Type 0 where
  pub order : ByteOrder
  pub fault : Option Fault

-- The bytes show this fault where a record is wanted. Want of memory and a failed read show in no byte.
abbrev pub ShowsFault : Records → Fault → Type 0
ShowsFault records Memory = Unit {0}
ShowsFault records Read = Unit {0}
ShowsFault records fault = records ≡ no_record (Some fault)

-- what was taken ends before what it begins, or is nothing
abbrev pub BrokeOff : Records → Type 0
BrokeOff taken = (taken ≡ no_record None) ⊎ (taken ≡ no_record (Some Cut))

-- What was taken shows the fault by itself. At want of memory and at a failed read it breaks off.
abbrev pub TakenShows : Records → Fault → Type 0
TakenShows taken Memory = BrokeOff taken
TakenShows taken Read = BrokeOff taken
TakenShows taken fault = taken ≡ no_record (Some fault)

-- the faults of bytes that are there, and not those of bytes that end, of memory or of a read
abbrev pub IsOutOfForm : Fault → Type 0
IsOutOfForm NotPcap = Unit {0}
IsOutOfForm Version = Unit {0}
IsOutOfForm LinkType = Unit {0}
IsOutOfForm LongRecord = Unit {0}
IsOutOfForm BadBlock = Unit {0}
IsOutOfForm fault = ⊥

-- No byte was taken behind those that tell: of each shorter front this holds.
abbrev pub OfFronts : (List ℕ → Type 0) → List ℕ → Type 0
OfFronts P taken = (front more : List ℕ) → taken ≡ front ++ more → 0 < length more → P front

-- At `Read` the source's count of faults rose. In every other outcome it stood still: no read failed.
pub record HasReadCause {T : Type 0} (before now : ℕ) (result : Result T Fault) : Type 0 where
  pub later : before ≤ now
  pub read : IsErrOf result Read → Rose before now
  pub still : (IsErrOf result Read → ⊥) → now ≡ before

-- the faults that opening a capture answers
abbrev pub IsClassicOpeningFault : Fault → Type 0
IsClassicOpeningFault NotPcap = Unit {0}
IsClassicOpeningFault Version = Unit {0}
IsClassicOpeningFault LinkType = Unit {0}
IsClassicOpeningFault Cut = Unit {0}
IsClassicOpeningFault Read = Unit {0}
IsClassicOpeningFault fault = ⊥

-- the faults that reading a record answers
abbrev pub IsClassicRecordFault : Fault → Type 0
IsClassicRecordFault Memory = Unit {0}
IsClassicRecordFault Cut = Unit {0}
IsClassicRecordFault LongRecord = Unit {0}
IsClassicRecordFault Read = Unit {0}
IsClassicRecordFault fault = ⊥

-- The header of a record of some bytes, and of no more than a record may have: what memory is asked for.
abbrev pub ClassicWantsMemory : ByteOrder → List ℕ → Type 0
ClassicWantsMemory order header = (length header ≡ 16) × (0 < classic_captured_len order header) × (classic_captured_len order header ≤ longest_record)

-- The file header has this fault. A failed read shows in no byte.
abbrev pub HeaderShows : Option Fault → Fault → Type 0
HeaderShows found Read = Unit {0}
HeaderShows found fault = found ≡ Some fault

-- What was taken of the file header shows the fault by itself. At a failed read it is cut.
abbrev pub TakenHeaderShows : Option Fault → Fault → Type 0
TakenHeaderShows found Read = found ≡ Some Cut
TakenHeaderShows found fault = found ≡ Some fault

-- `Ok` took a file header: whatever follows it, the capture's records are the records of what follows. A fault is
-- that of the file header, in all the bytes and in those that were taken. Nothing was taken behind it: each
-- shorter front of a header is cut.
abbrev pub OpensClassic : Option (List ℕ) → Option (List ℕ) → Result ClassicReading Fault → Type 0
OpensClassic old new (Ok capture) =
    (capture.fault ≡ None) × Took old new (λ taken. (rest : List ℕ) → classic_records_of (taken ++ rest) ≡ records_in capture.order rest)
    × Took old new (OfFronts (λ front. header_fault front ≡ Some Cut))
OpensClassic old new (Err fault) =
    IsClassicOpeningFault fault × IfSome old (λ all. HeaderShows (header_fault all) fault)
    × Took old new (λ taken. TakenHeaderShows (header_fault taken) fault)
    × (IsOutOfForm fault → Took old new (OfFronts (λ front. header_fault front ≡ Some Cut)))

-- The same where the first bytes were taken before.
abbrev pub OpensBehind : List ℕ → Option (List ℕ) → Option (List ℕ) → Result ClassicReading Fault → Type 0
OpensBehind first old new (Ok capture) =
    (capture.fault ≡ None) × Took old new (λ taken. (rest : List ℕ) → classic_records_of ((first ++ taken) ++ rest) ≡ records_in capture.order rest)
    × Took old new (OfFronts (λ front. header_fault (first ++ front) ≡ Some Cut))
OpensBehind first old new (Err fault) =
    IsClassicOpeningFault fault × IfSome old (λ all. HeaderShows (header_fault (first ++ all)) fault)
    × Took old new (λ taken. TakenHeaderShows (header_fault (first ++ taken)) fault)
    × (IsOutOfForm fault → Took old new (OfFronts (λ front. header_fault (first ++ front) ≡ Some Cut)))

-- `Ok(Some(_))` took one record and no more: whatever follows it, the first record is this frame, and the others are
-- those of what follows. `Ok(None)` is the end. A fault is that of all the bytes, and those that were taken show it. Nothing
-- was taken behind the record, nor behind a header that is out of form: each shorter front breaks off.
abbrev pub GivesClassic : ByteOrder → Option (List ℕ) → Option (List ℕ) → List ℕ → Result (Option Record) Fault → Type 0
GivesClassic order old new frame (Ok (Some found)) =
    (found.captured ≡ length frame) × Took old new
    (λ taken. (rest : List ℕ) → records_in order (taken ++ rest) ≡ with_record frame found.original (records_in order rest))
    × Took old new (OfFronts (λ front. BrokeOff (records_in order front)))
GivesClassic order old new frame (Ok None) = IsAtEnd old × Keeps old new
GivesClassic order old new frame (Err fault) =
    IsClassicRecordFault fault × IfSome old (λ all. ShowsFault (records_in order all) fault) × Took old new (λ taken. TakenShows (records_in order taken) fault)
    × (IsOutOfForm fault → Took old new (OfFronts (λ front. BrokeOff (records_in order front))))
