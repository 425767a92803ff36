-- The records of a pcapng capture, and the first fault of its bytes. Each block is a type and its total length, of four
-- bytes each, a body, and the total length once more. A section header tells the order of the numbers behind it and
-- forgets the interfaces before it. A packet is of an interface of its section. Times, options and all other blocks are
-- passed over.
use Rattle.std.specs.Prelude.{ℕ, zero, suc, ◌+◌, ◌-◌, ◌*◌, ◌/◌, ◌%◌, min, List, [], ◌∷◌, ◌++◌, length, take, drop, nat_eq, nat_lt, nat_le}
use Rattle.std.specs.{Prelude.{Bool, true, false, ◌==◌, ◌&&◌, ◌||◌, not, if◌then◌else◌, Option, Some, None, unwrap_or}, List.{starts_with, slice_get}}
use Rattle.zr_kinds.specs.{Limits.{longest_record}, declared.fault.Fault.{Fault, TheVariants.{Version, LinkType, Cut, LongRecord, BadBlock}}}
use Rattle.pcap_reader.specs.{declared.order.ByteOrder.{TheVariants.{Little, Big}, ByteOrder}, Records.{number, Records, no_record, with_record}}
pub use Rattle.pcapng_reader.specs.declared.{kind.Kind.{Kind}, section.Interface.{Interface}}
use Rattle.pcapng_reader.specs.declared.section.TheConstants.{MAX_OTHERS}
use Rattle.pcapng_reader.specs.declared.kind.Kind.TheVariants.{SectionHeader, InterfaceDescription, EnhancedPacket, SimplePacket, Other}

-- how a section goes on: the order of its numbers, its interfaces, and how many blocks that are no packets came in the
-- capture so far
pub record Section : Type 0 where
  pub order : ByteOrder
  pub interfaces : List Interface
  pub others : ℕ

-- before the first section header, which reads alike in both orders
abbrev pub no_section : Section
no_section = record { order = Little; interfaces = []; others = 0 }

-- ---- kinds of blocks

abbrev pub is_section_header : List ℕ → Bool
is_section_header bytes = starts_with nat_eq bytes (0x0a ∷ 0x0d ∷ 0x0d ∷ 0x0a ∷ [])

abbrev pub kind_of_type : ℕ → Kind
kind_of_type n =
    if n == 1 then InterfaceDescription
    else if n == 6 then EnhancedPacket
    else if n == 3 then SimplePacket
    else Other

abbrev pub block_kind_of : ByteOrder → List ℕ → Kind
block_kind_of order bytes = if is_section_header bytes then SectionHeader else kind_of_type (number order 4 bytes)

-- How many bytes a block has at least before its packet's bytes or its options. Its last number is four more.
abbrev pub fixed_len : Kind → ℕ
fixed_len SectionHeader = 24
fixed_len InterfaceDescription = 16
fixed_len EnhancedPacket = 28
fixed_len SimplePacket = 12
fixed_len Other = 8

abbrev pub is_packet : Kind → Bool
is_packet EnhancedPacket = true
is_packet SimplePacket = true
is_packet kind = false

-- how many bytes tell the order and the total length
abbrev pub begin_len : Kind → ℕ
begin_len SectionHeader = 12
begin_len kind = 8

-- ---- numbers of a block

-- the order that a section's magic tells
abbrev pub magic_order : List ℕ → Option ByteOrder
magic_order magic =
    if number Little 4 magic == 0x1A2B3C4D then Some Little
    else if number Big 4 magic == 0x1A2B3C4D then Some Big
    else None

abbrev pub order_told : Section → Kind → List ℕ → Option ByteOrder
order_told s SectionHeader bytes = magic_order (drop 8 bytes)
order_told s kind bytes = Some s.order

abbrev pub order_in : Section → Kind → List ℕ → ByteOrder
order_in s kind bytes = unwrap_or (order_told s kind bytes) s.order

abbrev pub total_len : ByteOrder → List ℕ → ℕ
total_len order bytes = number order 4 (drop 4 bytes)

abbrev pub interface_in : ByteOrder → List ℕ → Interface
interface_in order bytes = record { link_type = number order 2 (drop 8 bytes); snaplen = number order 4 (drop 12 bytes) }

-- ---- packets

-- the interface that a packet names; a simple packet is of the first
abbrev pub interface_of : Section → Kind → List ℕ → Option Interface
interface_of s EnhancedPacket bytes = slice_get s.interfaces (number s.order 4 (drop 8 bytes))
interface_of s kind bytes = slice_get s.interfaces 0

abbrev pub original_len : Section → Kind → List ℕ → ℕ
original_len s EnhancedPacket bytes = number s.order 4 (drop 24 bytes)
original_len s kind bytes = number s.order 4 (drop 8 bytes)

-- what an interface captures of so many bytes; 0 is no limit
abbrev pub limited : ℕ → ℕ → ℕ
limited snaplen len = if snaplen == 0 then len else min len snaplen

abbrev pub first_snaplen : List Interface → ℕ
first_snaplen [] = 0
first_snaplen (first ∷ others) = first.snaplen

-- a simple packet states no captured length
abbrev pub captured_len : Section → Kind → List ℕ → ℕ
captured_len s EnhancedPacket bytes = number s.order 4 (drop 20 bytes)
captured_len s kind bytes = limited (first_snaplen s.interfaces) (number s.order 4 (drop 8 bytes))

abbrev pub frame_of : Section → Kind → List ℕ → List ℕ
frame_of s kind bytes = take (captured_len s kind bytes) (drop (fixed_len kind) bytes)

-- the captured bytes are filled up to a multiple of four
abbrev pub padded : ℕ → ℕ
padded n = (n + 3) / 4 * 4

-- what is wrong with a packet of this interface and captured length, with so much room for captured bytes and options
abbrev pub packet_fault : Option Interface → ℕ → ℕ → Option Fault
packet_fault None captured room = Some BadBlock
packet_fault (Some i) captured room =
    if not (i.link_type == 1) then Some LinkType
    else if nat_lt longest_record captured then Some LongRecord
    else if nat_lt room (padded captured) then Some BadBlock
    else None

-- ---- a block's fault, by the rules in their order

-- how many blocks that are no packets a capture may have
abbrev pub most_others : ℕ
most_others = MAX_OTHERS

abbrev pub is_too_many : Section → Kind → Bool
is_too_many s kind = not (is_packet kind) && nat_le most_others s.others

abbrev pub misfits : Kind → ℕ → Bool
misfits kind total = nat_lt total (fixed_len kind + 4) || not (total % 4 == 0)

-- what is wrong with the bytes before a packet's bytes or the options
abbrev pub fixed_fault : Section → Kind → ByteOrder → List ℕ → Option Fault
fixed_fault s SectionHeader order bytes = if number order 2 (drop 12 bytes) == 1 then None else Some Version
fixed_fault s InterfaceDescription order bytes = None
fixed_fault s Other order bytes = None
fixed_fault s kind order bytes =
    packet_fault (interface_of s kind bytes) (captured_len s kind bytes) (total_len order bytes - (fixed_len kind + 4))

abbrev pub end_fault : ByteOrder → List ℕ → Option Fault
end_fault order bytes =
    if nat_lt (length bytes) (total_len order bytes) then Some Cut
    else if number order 4 (drop (total_len order bytes - 4) bytes) == total_len order bytes then None
    else Some BadBlock

abbrev pub or_else : Option Fault → Option Fault → Option Fault
or_else (Some fault) later = Some fault
or_else None later = later

abbrev pub fault_behind : Section → Kind → Option ByteOrder → List ℕ → Option Fault
fault_behind s kind None bytes = Some BadBlock
fault_behind s kind (Some order) bytes =
    if is_too_many s kind || misfits kind (total_len order bytes) then Some BadBlock
    else if nat_lt (length bytes) (fixed_len kind) then Some Cut
    else or_else (fixed_fault s kind order bytes) (end_fault order bytes)

abbrev pub kind_fault : Section → Kind → List ℕ → Option Fault
kind_fault s kind bytes =
    if nat_lt (length bytes) (begin_len kind) then Some Cut
    else fault_behind s kind (order_told s kind bytes) bytes

-- what is wrong with the block that begins here, of at least one byte
unfoldable pub block_fault : Section → List ℕ → Option Fault
block_fault s bytes = kind_fault s (block_kind_of s.order bytes) bytes

-- ---- the records of blocks

-- the section behind a block
abbrev pub section_behind : Section → Kind → List ℕ → Section
section_behind s SectionHeader bytes = record { order = order_in s SectionHeader bytes; interfaces = []; others = s.others + 1 }
section_behind s InterfaceDescription bytes =
    record s { interfaces = s.interfaces ++ interface_in s.order bytes ∷ []; others = s.others + 1 }
section_behind s Other bytes = record s { others = s.others + 1 }
section_behind s kind bytes = s

-- a packet's record, before the records of the blocks behind it
abbrev pub with_block : Section → Kind → List ℕ → Records → Records
with_block s kind bytes others =
    if is_packet kind then with_record (frame_of s kind bytes) (original_len s kind bytes) others else others

-- the fault, or else the block's record, if any, and those behind it
abbrev pub after_block : Option Fault → Section → Kind → List ℕ → Records → Records
after_block (Some fault) s kind bytes others = no_record (Some fault)
after_block None s kind bytes others = with_block s kind bytes others

-- the records behind the next so many bytes
unfoldable pub blocks_behind : Section → ℕ → List ℕ → Records
blocks_behind s skip [] = no_record None
blocks_behind s (suc skip) (byte ∷ bytes) = blocks_behind s skip bytes
blocks_behind s zero (byte ∷ bytes) = let kind = block_kind_of s.order (byte ∷ bytes) in
    after_block (block_fault s (byte ∷ bytes)) s kind (byte ∷ bytes)
    (blocks_behind (section_behind s kind (byte ∷ bytes)) (total_len (order_in s kind (byte ∷ bytes)) (byte ∷ bytes) - 1) bytes)

-- the records of the blocks from here on
unfoldable pub blocks_in : Section → List ℕ → Records
blocks_in s bytes = blocks_behind s 0 bytes
