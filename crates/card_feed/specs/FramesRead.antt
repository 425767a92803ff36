-- What was read of a source since its reading began, and how it ended.
use Rattle.std.specs.{Prelude.{◌≡◌, ◌≢◌, ℕ, List, [], ◌∷◌, ◌++◌, Option, Some, None, IfSome, ◌⊎◌}, Io.KnownBytes.{IsAtEnd}}
use Rattle.zr_kinds.specs.declared.fault.Fault.{Fault, TheVariants.{Memory, NotPcap, Version, LinkType, Cut, LongRecord, Read, TooManyFlows, TooManyFrames, BadBlock}}
use Rattle.zr_io.specs.Moved.{Rose, Took}
use Rattle.pcap_reader.specs.{Records.{Captured, Records}, Capture.{IsOutOfForm, OfFronts}}
use Rattle.pcapng_reader.specs.{Records.{Going, records_from, records_of}, Capture.{WantsMemory}}
use Rattle.flow_table.specs.Flows.{flows_of}
use Rattle.card_feed.specs.Ending.{Ending, steered_in, steered_next, BeginsFlow, ending_at, frames_of, ended_after, ended_of}

-- more records, before these
abbrev pub with_records : List Captured → Records → Records
with_records records others = record { all = records ++ others.all; fault = others.fault }

-- The bytes that were taken hold these records and no more: whatever follows them, the capture's other records are
-- those of what follows.
abbrev pub HoldsRecords : Going → List Captured → List ℕ → Type 0
HoldsRecords going records taken = (rest : List ℕ) → records_of (taken ++ rest) ≡ with_records records (records_from going rest)

-- no frame of these ends the reading
abbrev pub GoesThrough : List ℕ → List (List ℕ) → Type 0
GoesThrough ports frames = (more : List (List ℕ)) (fault : Option Fault)
    → ended_after ports [] (frames ++ more) fault ≡ ended_after ports frames more fault

-- The reading of these bytes runs out: it comes to their end, or they are cut.
abbrev pub RunsOut : Ending → Type 0
RunsOut ended = (ended.fault ≡ None) ⊎ (ended.fault ≡ Some Cut)

-- these bytes end with what ends their reading, if anything does: the reading of each shorter front runs out
abbrev pub RunsOutBefore : List ℕ → List ℕ → Type 0
RunsOutBefore ports taken = OfFronts (λ front. RunsOut (ended_of ports front)) taken

-- These records were read, and no read failed.
pub record HasRead (going : Going) (left_at_first left : Option (List ℕ)) (faults_at_first faults : ℕ) (ports : List ℕ)
    (records : List Captured) : Type 0 where
  pub taken : Took left_at_first left (HoldsRecords going records)
  pub least : Took left_at_first left (RunsOutBefore ports)
  pub still : faults ≡ faults_at_first
  pub through : GoesThrough ports (frames_of records)

-- All bytes show this ending. Want of memory and a failed read show in none.
abbrev pub ShowsEnding : Ending → List (List ℕ) → Option Fault → Type 0
ShowsEnding ended before (Some Memory) = Unit {0}
ShowsEnding ended before (Some Read) = Unit {0}
ShowsEnding ended before fault = ended ≡ record { before = before; fault = fault }

-- The bytes that were taken end at a record's end, or within what they begin.
abbrev pub BreaksOff : Ending → List (List ℕ) → Type 0
BreaksOff ended before = (ended ≡ record { before = before; fault = None }) ⊎ (ended ≡ record { before = before; fault = Some Cut })

-- a flow begins with this frame
abbrev pub BeginsFlowAt : List ℕ → List (List ℕ) → List ℕ → Type 0
BeginsFlowAt ports before frame = BeginsFlow (flows_of (steered_in ports before)) (steered_next ports before frame)

-- The bytes that were taken hold the records of these frames, and behind them the head of a record or of a block that memory is
-- wanted for.
pub record EndsWanting (before : List (List ℕ)) (taken : List ℕ) : Type 0 where
  pub going : Going
  pub records : List Captured
  pub passed : List ℕ
  pub head : List ℕ
  pub parts : taken ≡ passed ++ head
  pub holds : HoldsRecords going records passed
  pub frames : frames_of records ≡ before
  pub wants : WantsMemory going head

-- Behind these frames the bytes that were taken end within a record or a block, for which there was no memory; or they hold one
-- frame more, which `Wants` says to want some, and there was none.
abbrev pub LacksMemory : (List (List ℕ) → List ℕ → Type 0) → List ℕ → List ℕ → List (List ℕ) → Type 0
LacksMemory Wants ports taken before =
    ((ended_of ports taken ≡ record { before = before; fault = Some Cut }) × EndsWanting before taken)
    ⊎ ((frame : List ℕ) × Wants before frame × (ended_of ports taken ≡ record { before = before ++ frame ∷ []; fault = None }))

-- The bytes that were taken show this ending by themselves. At a failed read they break off, and at want of memory they
-- show what it was wanted for.
abbrev pub TakenEnds : (List (List ℕ) → List ℕ → Type 0) → List ℕ → List ℕ → List (List ℕ) → Option Fault → Type 0
TakenEnds Wants ports taken before (Some Memory) = LacksMemory Wants ports taken before
TakenEnds Wants ports taken before (Some Read) = BreaksOff (ended_of ports taken) before
TakenEnds Wants ports taken before fault = ended_of ports taken ≡ record { before = before; fault = fault }

-- The reading ends at this frame by this fault: by want of memory, where the frame wants some, or as the definition says.
abbrev pub EndsAt : (List (List ℕ) → List ℕ → Type 0) → List ℕ → List (List ℕ) → List ℕ → Fault → Type 0
EndsAt Wants ports before frame Memory = (ending_at ports before frame ≡ None) × Wants before frame
EndsAt Wants ports before frame fault = ending_at ports before frame ≡ Some fault

-- how a reading may end
abbrev pub IsEnding : Option Fault → Type 0
IsEnding None = Unit {0}
IsEnding (Some Memory) = Unit {0}
IsEnding (Some NotPcap) = Unit {0}
IsEnding (Some Version) = Unit {0}
IsEnding (Some LinkType) = Unit {0}
IsEnding (Some Cut) = Unit {0}
IsEnding (Some LongRecord) = Unit {0}
IsEnding (Some Read) = Unit {0}
IsEnding (Some TooManyFlows) = Unit {0}
IsEnding (Some TooManyFrames) = Unit {0}
IsEnding (Some BadBlock) = Unit {0}
IsEnding (Some fault) = ⊥

-- the endings that bytes show which are there: what is out of form, or one flow or frame too many
abbrev pub IsShownEnding : Option Fault → Type 0
IsShownEnding None = ⊥
IsShownEnding (Some TooManyFlows) = Unit {0}
IsShownEnding (Some TooManyFrames) = Unit {0}
IsShownEnding (Some fault) = IsOutOfForm fault

-- a source that tells its bytes was read to its end
abbrev pub IsReadToEnd : Option (List ℕ) → Option (List ℕ) → Type 0
IsReadToEnd None left = Unit {0}
IsReadToEnd (Some bytes) left = IsAtEnd left

-- The reading ended after these frames, by this fault or without one. `Wants before frame` says that the frame behind
-- these wants memory, for which there may be none.
pub record HasEnded (Wants : List (List ℕ) → List ℕ → Type 0) (left_at_first left : Option (List ℕ)) (faults_at_first faults : ℕ) (ports : List ℕ)
    (before : List (List ℕ)) (fault : Option Fault) : Type 0 where
  -- what was taken shows the ending, and so do all the bytes
  pub taken : Took left_at_first left (λ taken. TakenEnds Wants ports taken before fault)
  pub shown : IfSome left_at_first (λ all. ShowsEnding (ended_of ports all) before fault)
  -- nothing was taken behind the bytes that show it
  pub least : IsShownEnding fault → Took left_at_first left (RunsOutBefore ports)
  pub at_end : fault ≡ None → IsReadToEnd left_at_first left
  pub kind : IsEnding fault
  -- A read failed only where the source's count of faults rose. If it ended otherwise, that count stood still: the
  -- first read that fails ends the reading.
  pub cause : fault ≡ Some Read → Rose faults_at_first faults
  pub still : fault ≢ Some Read → faults ≡ faults_at_first
