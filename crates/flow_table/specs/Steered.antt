-- The segments that are steered to an application: those whose destination port is one of the ports.
use Rattle.std.specs.Prelude.{ℕ, suc, ◌+◌, ◌/◌, ◌%◌, ◌^◌, List, [], ◌∷◌, ◌++◌, map, ◌==◌, if◌then◌else◌, Bool, position, Option, Some, None, option_to_list}
use Rattle.frame_headers.specs.{FrameClass.{TcpSegment, class_of}, Seen.{segment_of}}

-- a steered segment: the number of its record, from 1, and its application, which is the place of its port
pub record SteeredTcp : Type 0 where
  pub record_number : ℕ
  pub app : ℕ
  pub segment : TcpSegment

abbrev pub has_fin : TcpSegment → Bool
has_fin segment = segment.flags % 2 == 1

abbrev pub has_syn : TcpSegment → Bool
has_syn segment = segment.flags / 2 % 2 == 1

abbrev pub has_rst : TcpSegment → Bool
has_rst segment = segment.flags / 4 % 2 == 1

-- the sequence number of the first payload byte: SYN takes one (RFC 9293, 3.4)
abbrev pub first_byte : TcpSegment → ℕ
first_byte segment = (segment.seq + (if has_syn segment then 1 else 0)) % 2 ^ 32

-- the application of a port
abbrev pub app_of : List ℕ → ℕ → Option ℕ
app_of ports port = position (λ p. p == port) ports

abbrev pub steer_to : ℕ → TcpSegment → Option ℕ → Option SteeredTcp
steer_to record_number segment None = None
steer_to record_number segment (Some app) = Some (record { record_number = record_number; app = app; segment = segment })

abbrev pub steer : List ℕ → ℕ → Option TcpSegment → Option SteeredTcp
steer ports record_number None = None
steer ports record_number (Some segment) = steer_to record_number segment (app_of ports segment.dport)

-- the steered segments of records from a number on; each record has a segment or none
abbrev pub steered_from : List ℕ → ℕ → List (Option TcpSegment) → List SteeredTcp
steered_from ports record_number [] = []
steered_from ports record_number (segment ∷ segments) =
    option_to_list (steer ports record_number segment) ++ steered_from ports (suc record_number) segments

abbrev pub segments_of : List (List ℕ) → List (Option TcpSegment)
segments_of frames = map (λ frame. segment_of (class_of frame)) frames

-- the steered segments of a list of records, the first of which has the number 1
unfoldable pub steered_of : List ℕ → List (Option TcpSegment) → List SteeredTcp
steered_of ports segments = steered_from ports 1 segments
