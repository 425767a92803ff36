-- What the plain program's values stand for.
use Rattle.std.specs.Prelude.{ℕ, List, Option, option_map, find, ◌==◌}
use Rattle.frame_headers.specs.Seen.{shown}
use Rattle.zr_kinds.specs.CopyingReceiver.{Placed}
use Rattle.flow_table.specs.{Steered.{SteeredTcp}, Flows.{Flow, Numbered}, Kept.{close_shown}, declared.plain.steered.SteeredSegment.{SteeredSegment}}
use Rattle.flow_table.specs.declared.plain.{flows.PlainFlow.{PlainFlow}, placed.{PlacedByte.{PlacedByte}, PlainPlaced.{PlainPlaced}}}

abbrev pub steered_shown : SteeredSegment → SteeredTcp
steered_shown s = record { record_number = s.record_number; app = s.app; segment = shown s.segment }

abbrev pub flow_shown : PlainFlow → Flow
flow_shown f = record { key = record { src = f.src; dst = f.dst; sport = f.sport; dport = f.dport }; app = f.app; base = f.base; close = close_shown f.close }

-- a flow with its number
abbrev pub found_shown : ℕ × PlainFlow → Numbered
found_shown (number, flow) = record { number = number; flow = flow_shown flow }

-- the first byte of the list that is at the position
abbrev pub byte_in : List PlacedByte → ℕ → Option ℕ
byte_in bytes position = option_map (λ b. b.byte) (find (λ b. b.position == position) bytes)

abbrev pub placed_shown : PlainPlaced → Placed ℕ
placed_shown p = record { at = byte_in p.bytes.items; top = p.top }
