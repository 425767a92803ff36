-- Flows: they are numbered from 0 in the order of their first steered segment, and known by the IP version, both
-- addresses and both ports. A SYN whose first byte isn't at the base of the newest flow of its key begins a new flow.
use Rattle.std.specs.{Prelude.{ℕ, zero, suc, List, [], ◌∷◌, ◌++◌, length, ◌==◌, if◌then◌else◌, Bool, false, ◌&&◌, not, Option, Some, None}, Str.{bytes_eq}}
use Rattle.frame_headers.specs.{FrameClass.{TcpSegment}, declared.segment.Addr.{Addr, TheVariants.{V4, V6}}}
use Rattle.flow_table.specs.{Steered.{SteeredTcp, has_syn, first_byte}, CountedPart.{FlowClose, not_closed, closed_by}}

-- what knows a flow; an address has its version
pub record FlowKey : Type 0 where
  pub src : Addr
  pub dst : Addr
  pub sport : ℕ
  pub dport : ℕ

pub record Flow : Type 0 where
  pub key : FlowKey
  pub app : ℕ
  pub base : ℕ
  pub close : FlowClose

abbrev pub key_of : TcpSegment → FlowKey
key_of segment = record { src = segment.src; dst = segment.dst; sport = segment.sport; dport = segment.dport }

abbrev pub same_addr : Addr → Addr → Bool
same_addr (V4 a) (V4 b) = bytes_eq a b
same_addr (V6 a) (V6 b) = bytes_eq a b
same_addr (V4 a) (V6 b) = false
same_addr (V6 a) (V4 b) = false

abbrev pub same_key : FlowKey → FlowKey → Bool
same_key a b = same_addr a.src b.src && same_addr a.dst b.dst && a.sport == b.sport && a.dport == b.dport

-- a flow with its number
pub record Numbered : Type 0 where
  pub number : ℕ
  pub flow : Flow

abbrev pub later_or : Option Numbered → Option Numbered → Option Numbered
later_or None earlier = earlier
later_or (Some later) earlier = Some later

-- the newest flow of a key, where the first flow of the list has this number
abbrev pub newest_from : ℕ → FlowKey → List Flow → Option Numbered
newest_from number key [] = None
newest_from number key (flow ∷ flows) =
    later_or (newest_from (suc number) key flows) (if same_key flow.key key then Some (record { number = number; flow = flow }) else None)

abbrev pub newest : FlowKey → List Flow → Option Numbered
newest key flows = newest_from 0 key flows

abbrev pub begins_anew : Flow → TcpSegment → Bool
begins_anew flow segment = has_syn segment && not (first_byte segment == flow.base)

-- the number of the flow that a segment belongs to, or else the next number
abbrev pub number_among : ℕ → TcpSegment → Option Numbered → ℕ
number_among next segment None = next
number_among next segment (Some found) = if begins_anew found.flow segment then next else found.number

unfoldable pub number_of_flow : List Flow → SteeredTcp → ℕ
number_of_flow flows steered = number_among (length flows) steered.segment (newest (key_of steered.segment) flows)

abbrev pub new_flow : SteeredTcp → Flow
new_flow steered = record {
  key = key_of steered.segment;
  app = steered.app;
  base = first_byte steered.segment;
  close = closed_by not_closed steered.segment;
}

abbrev pub seen_by : Flow → TcpSegment → Flow
seen_by flow segment = record { key = flow.key; app = flow.app; base = flow.base; close = closed_by flow.close segment }

-- the flows, with this one of them having seen the segment; at the number behind the last a new flow begins
abbrev pub with_segment : List Flow → ℕ → SteeredTcp → List Flow
with_segment [] number steered = new_flow steered ∷ []
with_segment (flow ∷ flows) zero steered = seen_by flow steered.segment ∷ flows
with_segment (flow ∷ flows) (suc number) steered = flow ∷ with_segment flows number steered

unfoldable pub flows_with : List Flow → SteeredTcp → List Flow
flows_with flows steered = with_segment flows (number_of_flow flows steered) steered

-- the flows after more steered segments
abbrev pub flows_after : List Flow → List SteeredTcp → List Flow
flows_after flows [] = flows
flows_after flows (steered ∷ others) = flows_after (flows_with flows steered) others

abbrev pub flows_of : List SteeredTcp → List Flow
flows_of steered = flows_after [] steered

-- the steered segments that belong to the flow of a number
abbrev pub of_flow_after : ℕ → List Flow → List SteeredTcp → List SteeredTcp
of_flow_after number flows [] = []
of_flow_after number flows (steered ∷ others) =
    (if number_of_flow flows steered == number then steered ∷ [] else []) ++ of_flow_after number (flows_with flows steered) others

abbrev pub of_flow : ℕ → List SteeredTcp → List SteeredTcp
of_flow number steered = of_flow_after number [] steered
