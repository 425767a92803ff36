-- What opening a capture of either form and reading its next record say.
use Rattle.std.specs.{Prelude.{◌≡◌, ℕ, ◌<◌, ◌≤◌, List, ◌++◌, length, Option, Some, None, Result, Ok, Err, IfSome}, Io.KnownBytes.{IsAtEnd}}
use Rattle.zr_kinds.specs.{Limits.{longest_record}, declared.fault.Fault.{Fault, TheVariants.{Memory, NotPcap, Version, LinkType, Cut, LongRecord, Read, BadBlock}}}
use Rattle.zr_io.specs.Moved.{Took}
use Rattle.pcap_reader.specs.{Records.{no_record, with_record}, Capture.{ShowsFault, BrokeOff, TakenShows, HeaderShows, TakenHeaderShows, IsOutOfForm, OfFronts}}
use Rattle.pcap_reader.specs.declared.capture.Record.{Record}
use Rattle.pcap_reader.specs.Capture as classic_form
use Rattle.pcapng_reader.specs.Blocks.{Section, Kind, block_kind_of, fixed_len, captured_len, block_fault, blocks_in}
use Rattle.pcapng_reader.specs.declared.kind.Kind.TheVariants.{InterfaceDescription, EnhancedPacket, SimplePacket}
use Rattle.pcapng_reader.specs.Records.{classic, blocks, records_from, records_of, opening_fault}
pub use Rattle.pcapng_reader.specs.Records.{Going}

-- a capture as its callers see it: how it goes on, and the fault that ended its reading
pub record Reading : Type 0 where
  pub going : Going
  pub fault : Option Fault

-- the faults that opening a capture answers
abbrev pub IsOpeningFault : Fault → Type 0
IsOpeningFault NotPcap = Unit {0}
IsOpeningFault Version = Unit {0}
IsOpeningFault LinkType = Unit {0}
IsOpeningFault Cut = Unit {0}
IsOpeningFault Read = Unit {0}
IsOpeningFault BadBlock = Unit {0}
IsOpeningFault fault = ⊥

-- the faults that reading a record answers
abbrev pub IsRecordFault : Fault → Type 0
IsRecordFault Memory = Unit {0}
IsRecordFault Version = Unit {0}
IsRecordFault LinkType = Unit {0}
IsRecordFault Cut = Unit {0}
IsRecordFault LongRecord = Unit {0}
IsRecordFault Read = Unit {0}
IsRecordFault BadBlock = Unit {0}
IsRecordFault fault = ⊥

-- ---- memory

-- a packet of some bytes and of no more than a record may have, or an interface
abbrev pub WantsBytes : Section → Kind → List ℕ → Type 0
WantsBytes s EnhancedPacket bytes = (0 < captured_len s EnhancedPacket bytes) × (captured_len s EnhancedPacket bytes ≤ longest_record)
WantsBytes s SimplePacket bytes = (0 < captured_len s SimplePacket bytes) × (captured_len s SimplePacket bytes ≤ longest_record)
WantsBytes s InterfaceDescription bytes = Unit {0}
WantsBytes s kind bytes = ⊥

-- the first bytes of a packet or of an interface's block, which alone are cut: what memory is asked for
pub record WantsHere (s : Section) (head : List ℕ) : Type 0 where
  pub whole : length head ≡ fixed_len (block_kind_of s.order head)
  pub cut : block_fault s head ≡ Some Cut
  pub wants : WantsBytes s (block_kind_of s.order head) head

-- the same behind blocks that are no packets
pub record WantsAt (before : Section) (taken : List ℕ) : Type 0 where
  pub passed : List ℕ
  pub head : List ℕ
  pub now : Section
  pub parts : taken ≡ passed ++ head
  pub over : (rest : List ℕ) → blocks_in before (passed ++ rest) ≡ blocks_in now rest
  pub here : WantsHere now head

abbrev pub WantsMemory : Going → List ℕ → Type 0
WantsMemory (classic order) taken = classic_form.ClassicWantsMemory order taken
WantsMemory (blocks section) taken = WantsAt section taken

-- ---- the calls

-- `Ok` took a file header, or the first section header: whatever follows it, the capture's records are the records of
-- what follows. A fault is that of this header, in all the bytes and in those that were taken. Nothing was taken behind it: each
-- shorter front of a header is cut.
abbrev pub Opens : Option (List ℕ) → Option (List ℕ) → Result Reading Fault → Type 0
Opens old new (Ok capture) =
    (capture.fault ≡ None) × Took old new (λ taken. (rest : List ℕ) → records_of (taken ++ rest) ≡ records_from capture.going rest)
    × Took old new (OfFronts (λ front. opening_fault front ≡ Some Cut))
Opens old new (Err fault) =
    IsOpeningFault fault × IfSome old (λ all. HeaderShows (opening_fault all) fault)
    × Took old new (λ taken. TakenHeaderShows (opening_fault taken) fault)
    × (IsOutOfForm fault → Took old new (OfFronts (λ front. opening_fault front ≡ Some Cut)))

-- `Ok(Some(_))` took one record, and blocks before it that are no packets: whatever follows, the first record is this
-- frame, and the others are those of what follows. `Ok(None)` is the end, and took such blocks alone. A fault is that of
-- all the bytes, and those that were taken show it. Nothing was taken behind the record, nor behind what is out of form: each shorter
-- front breaks off.
abbrev pub Gives : Going → Going → Option (List ℕ) → Option (List ℕ) → List ℕ → Result (Option Record) Fault → Type 0
Gives going going_now old new frame (Ok (Some found)) =
    (found.captured ≡ length frame) × Took old new
    (λ taken. (rest : List ℕ) → records_from going (taken ++ rest) ≡ with_record frame found.original (records_from going_now rest))
    × Took old new (OfFronts (λ front. BrokeOff (records_from going front)))
Gives going going_now old new frame (Ok None) =
    IfSome old (λ all. IsAtEnd new) × Took old new (λ taken. records_from going taken ≡ no_record None)
Gives going going_now old new frame (Err fault) =
    IsRecordFault fault × IfSome old (λ all. ShowsFault (records_from going all) fault)
    × Took old new (λ taken. TakenShows (records_from going taken) fault)
    × (IsOutOfForm fault → Took old new (OfFronts (λ front. BrokeOff (records_from going front))))
