-- The records of a capture in either form, and the first fault of its bytes.
use Rattle.std.specs.Prelude.{List, ℕ, if◌then◌else◌, Option}
use Rattle.zr_kinds.specs.declared.fault.Fault.{Fault}
use Rattle.pcap_reader.specs.Records as classic_form
use Rattle.pcap_reader.specs.{declared.order.ByteOrder.{ByteOrder}, Records.{Records}}
pub use Rattle.pcapng_reader.specs.Blocks.{Section}
use Rattle.pcapng_reader.specs.Blocks.{no_section, is_section_header, block_fault, blocks_in}

-- how a capture goes on, at the end of a record or a block
pub data Going : Type 0 where
  classic : ByteOrder → Going
  blocks : Section → Going

-- the records of the bytes from here on
abbrev pub records_from : Going → List ℕ → Records
records_from (classic order) bytes = classic_form.records_in order bytes
records_from (blocks section) bytes = blocks_in section bytes

-- The records of a capture. A pcapng capture begins with a section header.
unfoldable pub records_of : List ℕ → Records
records_of bytes = if is_section_header bytes then blocks_in no_section bytes else classic_form.classic_records_of bytes

-- what is wrong with the file header, or with the first section header
abbrev pub opening_fault : List ℕ → Option Fault
opening_fault bytes = if is_section_header bytes then block_fault no_section bytes else classic_form.header_fault bytes
