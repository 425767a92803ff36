-- What the steps of reading a block say.
use Rattle.std.specs.Prelude.{◌≡◌, ◌≢◌, ℕ, ◌+◌, ◌-◌, ◌<◌, ◌≤◌, List, ◌++◌, length, take, drop, false, Option, Some, None, Result, Ok, Err, IfSome}
use Rattle.std.specs.Io.KnownBytes.{Keeps, IsAtEnd, Consumes}
use Rattle.zr_kinds.specs.{Limits.{longest_record}, declared.fault.Fault.{Fault, TheVariants.{Memory, Version, LinkType, Cut, LongRecord, Read, BadBlock}}}
use Rattle.zr_io.specs.Moved.{Took}
use Rattle.pcap_reader.specs.{declared.order.ByteOrder.{ByteOrder}, Records.{number, with_record}, Capture.{IsOutOfForm, OfFronts}, Steps.{StepBreaksOff}}
use Rattle.pcap_reader.specs.declared.capture.Record.{Record}
use Rattle.pcapng_reader.specs.declared.section as code
use Rattle.pcapng_reader.specs.declared.{head.Head.{Head}, blocks.BlockCapture.{BlockCapture}}
use Rattle.pcapng_reader.specs.Blocks.{Section, Kind, Interface, block_kind_of, begin_len, fixed_len, order_told, total_len, is_too_many, misfits}
use Rattle.pcapng_reader.specs.Blocks.{interface_of, captured_len, original_len, packet_fault, fixed_fault, block_fault, blocks_in, no_section}
use Rattle.pcapng_reader.specs.Capture.{IsRecordFault}

-- a section as the code keeps it
abbrev pub told : code.OpenSection.OpenSection → Section
told s = record { order = s.order; interfaces = s.interfaces.items; others = s.others }

-- ---- parts

-- `Ok` took the bytes that stand from one place to another now; those before stayed.
abbrev pub FillsPart : ℕ → ℕ → Option (List ℕ) → Option (List ℕ) → List ℕ → List ℕ → Result (Unit {0}) Fault → Type 0
FillsPart from to old new before after (Ok _) = Took old new (λ taken. take to after ≡ take from before ++ taken)
FillsPart from to old new before after (Err fault) = StepBreaksOff old new (λ taken. length taken < to - from) fault

abbrev pub Skips : ℕ → Option (List ℕ) → Option (List ℕ) → Result (Unit {0}) Fault → Type 0
Skips count old new (Ok _) = Took old new (λ taken. length taken ≡ count)
Skips count old new (Err fault) = StepBreaksOff old new (λ taken. length taken < count) fault

-- `Ok` took so many bytes and the total length behind them. `BadBlock` took another number there.
abbrev pub TakesEnd : ByteOrder → ℕ → ℕ → Option (List ℕ) → Option (List ℕ) → Result (Unit {0}) Fault → Type 0
TakesEnd order total count old new (Ok _) = Took old new (λ taken. (length taken ≡ count + 4) × (number order 4 (drop count taken) ≡ total))
TakesEnd order total count old new (Err BadBlock) =
    Took old new (λ taken. (length taken ≡ count + 4) × (number order 4 (drop count taken) ≢ total))
TakesEnd order total count old new (Err fault) = StepBreaksOff old new (λ taken. length taken < count + 4) fault

-- ---- a block

-- the block has this fault; want of memory and a failed read show in no byte
abbrev pub BlockShows : Option Fault → Fault → Type 0
BlockShows found Memory = Unit {0}
BlockShows found Read = Unit {0}
BlockShows found fault = found ≡ Some fault

-- what was taken of a block shows the fault by itself; at want of memory and at a failed read it is cut
abbrev pub TakenBlockShows : Option Fault → Fault → Type 0
TakenBlockShows found Memory = found ≡ Some Cut
TakenBlockShows found Read = found ≡ Some Cut
TakenBlockShows found fault = found ≡ Some fault

-- no byte was taken behind those that have a fault or make the block whole: each shorter front is cut
abbrev pub IsCutBefore : (List ℕ → Option Fault) → List ℕ → Type 0
IsCutBefore fault_in taken = OfFronts (λ front. fault_in front ≡ Some Cut) taken

-- a fault of the block, in all the bytes and in those that were taken
abbrev pub BlockStops : (Fault → Type 0) → (List ℕ → Option Fault) → Option (List ℕ) → Option (List ℕ) → Fault → Type 0
BlockStops Comes fault_in old new fault =
    Comes fault × IfSome old (λ all. BlockShows (fault_in all) fault) × Took old new (λ taken. TakenBlockShows (fault_in taken) fault)
    × (IsOutOfForm fault → Took old new (IsCutBefore fault_in))

-- what is wrong with the block whose first bytes were taken before
abbrev pub fault_from : Section → List ℕ → List ℕ → Option Fault
fault_from s front bytes = block_fault s (front ++ bytes)

-- the faults of a section header, and of each block's form
abbrev pub IsHeaderFault : Fault → Type 0
IsHeaderFault Version = Unit {0}
IsHeaderFault Cut = Unit {0}
IsHeaderFault Read = Unit {0}
IsHeaderFault BadBlock = Unit {0}
IsHeaderFault fault = ⊥

-- the first bytes of a block of this kind, order and total length
pub record IsBegun (s : Section) (kind : Kind) (order : ByteOrder) (total : ℕ) (bytes : List ℕ) : Type 0 where
  pub long : begin_len kind ≤ length bytes
  pub is : block_kind_of s.order bytes ≡ kind
  pub tells : order_told s kind bytes ≡ Some order
  pub states : total_len order bytes ≡ total

-- a block of this kind and total length may come here
pub record MayCome (s : Section) (kind : Kind) (total : ℕ) : Type 0 where
  pub few : is_too_many s kind ≡ false
  pub fits : misfits kind total ≡ false

-- the bytes of a block before its packet's bytes or its options
abbrev pub head_bytes : Head → List ℕ
head_bytes head = take (fixed_len head.kind) head.bytes

-- a head is that of a block which may come in this section
pub record IsHead (s : Section) (head : Head) : Type 0 where
  pub whole : length (head_bytes head) ≡ fixed_len head.kind
  pub begun : IsBegun s head.kind head.order head.total (head_bytes head)
  pub may : MayCome s head.kind head.total

abbrev pub TakesHead : Section → List ℕ → Option (List ℕ) → Option (List ℕ) → Result Head Fault → Type 0
TakesHead s start old new (Ok head) = Took old new (λ taken. start ++ taken ≡ head_bytes head)
TakesHead s start old new (Err fault) = BlockStops IsHeaderFault (fault_from s start) old new fault

-- `Ok` took the rest of a block that is no packet: whatever follows it, the records are those of what follows, in the
-- section as it is now.
abbrev pub PassesBlock : (Fault → Type 0) → Section → Section → List ℕ → Option (List ℕ) → Option (List ℕ) → Result (Unit {0}) Fault → Type 0
PassesBlock Comes s now front old new (Ok _) =
    (now.others ≡ s.others + 1) × Took old new (λ taken. (rest : List ℕ) → blocks_in s ((front ++ taken) ++ rest) ≡ blocks_in now rest)
    × Took old new (IsCutBefore (fault_from s front))
PassesBlock Comes s now front old new (Err fault) = BlockStops Comes (fault_from s front) old new fault

-- the faults of an interface's block
abbrev pub IsInterfaceFault : Fault → Type 0
IsInterfaceFault Memory = Unit {0}
IsInterfaceFault fault = IsHeaderFault fault

-- the faults that a packet's lengths and interface may have
abbrev pub IsPacketFault : Fault → Type 0
IsPacketFault LinkType = Unit {0}
IsPacketFault LongRecord = Unit {0}
IsPacketFault BadBlock = Unit {0}
IsPacketFault fault = ⊥

-- the interface that a packet names, and its lengths
abbrev pub IsPacketOf : Section → Head → Option Interface → Record → Type 0
IsPacketOf s head interface found =
    (interface ≡ interface_of s head.kind (head_bytes head)) × (found.captured ≡ captured_len s head.kind (head_bytes head))
    × (found.original ≡ original_len s head.kind (head_bytes head))

-- what is said of a packet, of this interface and with so much room
abbrev pub JudgesPacket : Option Interface → ℕ → ℕ → Result (Unit {0}) Fault → Type 0
JudgesPacket interface captured room (Ok _) =
    (packet_fault interface captured room ≡ None) × (captured ≤ longest_record) × (captured ≤ room)
JudgesPacket interface captured room (Err fault) = IsPacketFault fault × (packet_fault interface captured room ≡ Some fault)

-- the lengths of a packet, or its fault
abbrev pub IsPacket : Section → Head → Result Record Fault → Type 0
IsPacket s head (Ok found) =
    (fixed_fault s head.kind head.order (head_bytes head) ≡ None) × (captured_len s head.kind (head_bytes head) ≡ found.captured)
    × (original_len s head.kind (head_bytes head) ≡ found.original) × (found.captured ≤ longest_record)
    × (found.captured + fixed_len head.kind + 4 ≤ head.total)
IsPacket s head (Err fault) = IsPacketFault fault × (fixed_fault s head.kind head.order (head_bytes head) ≡ Some fault)

-- `Ok` took the rest of a packet's block: whatever follows it, the first record is this frame.
abbrev pub TakesPacket : Section → List ℕ → Option (List ℕ) → Option (List ℕ) → List ℕ → Result Record Fault → Type 0
TakesPacket s front old new frame (Ok found) =
    (found.captured ≡ length frame) × Took old new
    (λ taken. (rest : List ℕ) → blocks_in s ((front ++ taken) ++ rest) ≡ with_record frame found.original (blocks_in s rest))
    × Took old new (IsCutBefore (fault_from s front))
TakesPacket s front old new frame (Err fault) = BlockStops IsRecordFault (fault_from s front) old new fault

-- the rest of a block of either sort
abbrev pub TakesBlock : Section → Section → List ℕ → Option (List ℕ) → Option (List ℕ) → List ℕ → Result (Option Record) Fault → Type 0
TakesBlock s now front old new frame (Ok None) = PassesBlock IsRecordFault s now front old new (Ok tt)
TakesBlock s now front old new frame (Ok (Some found)) = (now ≡ s) × TakesPacket s front old new frame (Ok found)
TakesBlock s now front old new frame (Err fault) = BlockStops IsRecordFault (fault_from s front) old new fault

-- the first eight bytes of a block, or the end
abbrev pub TakesStart : Option (List ℕ) → Option (List ℕ) → Result (Option (List ℕ)) Fault → Type 0
TakesStart old new (Ok (Some start)) = (length start ≡ 8) × Consumes old new start
TakesStart old new (Ok None) = IsAtEnd new × Keeps old new
TakesStart old new (Err Read) = Took old new (λ taken. length taken < 8)
TakesStart old new (Err Cut) = IfSome old (λ all. (0 < length all) × (length all < 8)) × Took old new (λ taken. (0 < length taken) × (length taken < 8))
TakesStart old new (Err fault) = ⊥

-- opening, behind the first bytes
abbrev pub OpensBlocks : List ℕ → Option (List ℕ) → Option (List ℕ) → Result BlockCapture Fault → Type 0
OpensBlocks first old new (Ok capture) =
    (capture.fault ≡ None) × Took old new
    (λ taken. (rest : List ℕ) → blocks_in no_section ((first ++ taken) ++ rest) ≡ blocks_in (told capture.section) rest)
    × Took old new (IsCutBefore (fault_from no_section first))
OpensBlocks first old new (Err fault) = BlockStops IsHeaderFault (fault_from no_section first) old new fault
