-- What of a segment counts: no byte at or past the number of its flow's first FIN, and nothing from the flow's first RST on (RFC
-- 9293, 3.6 and 3.5.3).
use Rattle.std.specs.Prelude.{ℕ, ◌+◌, ◌-◌, ◌%◌, ◌^◌, min, List, length, take, Bool, true, false, ◌||◌, if◌then◌else◌, Option, Some, None}
use Rattle.zr_kinds.specs.CopyingReceiver.{lead, first_of}
use Rattle.frame_headers.specs.FrameClass.{TcpSegment}
use Rattle.flow_table.specs.Steered.{has_fin, has_rst, first_byte}

-- How a flow was closed, so far: the sequence number behind its last byte, once a FIN set it, and whether a segment had RST.
pub record FlowClose : Type 0 where
  pub fin : Option ℕ
  pub reset : Bool

abbrev pub not_closed : FlowClose
not_closed = record { fin = None; reset = false }

-- the sequence number behind the payload
abbrev pub number_behind : TcpSegment → ℕ
number_behind segment = (first_byte segment + length segment.payload) % 2 ^ 32

-- A segment of the flow was seen. The first FIN sets the number, unless a RST came with it or before it.
abbrev pub closed_by : FlowClose → TcpSegment → FlowClose
closed_by close segment =
    if close.reset || has_rst segment then record { fin = close.fin; reset = true }
    else record { fin = first_of close.fin (if has_fin segment then Some (number_behind segment) else None); reset = false }

-- How many of so many bytes, the first of which has this number, come before the FIN's: `lead` less 2^31 is the signed distance to
-- it, or 0.
abbrev pub before_fin : Option ℕ → ℕ → ℕ → ℕ
before_fin None first len = len
before_fin (Some fin) first len = min len (lead first 0 fin - 2 ^ 31)

-- how many bytes of a segment count, where its flow, having seen it, is closed so
abbrev pub counted_len : FlowClose → TcpSegment → ℕ
counted_len close segment = if close.reset then 0 else before_fin close.fin (first_byte segment) (length segment.payload)

-- the bytes that count
abbrev pub counted_part : FlowClose → TcpSegment → List ℕ
counted_part close segment = take (counted_len close segment) segment.payload
