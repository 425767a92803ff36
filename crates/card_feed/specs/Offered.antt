-- The frames that are offered: the steered ones of whose payload some bytes count, each with its flow and these bytes.
use Rattle.std.specs.Prelude.{◌≡◌, ℕ, ◌<◌, ◌⊎◌, Bool, not, ◌==◌, if◌then◌else◌, List, [], ◌∷◌, ◌++◌, length, filter, Option, Some, None, All, AllPairs, Contains}
use Rattle.std.specs.List.{list_any, slice_get}
use Rattle.frame_headers.specs.{FrameClass.{TcpSegment, class_of}, Seen.{segment_of}}
use Rattle.flow_table.specs.{Steered.{SteeredTcp, first_byte, has_fin}, CountedPart.{FlowClose, not_closed, counted_part}}
use Rattle.flow_table.specs.Flows.{Flow, flows_of, flows_with, number_of_flow}
use Rattle.page_pool.specs.Frames.{Offered, ShowFrames}
use Rattle.board_face.specs.declared.views.nic.SentNote.{SentNote}
use Rattle.card_feed.specs.{Ending.{steered_in, steered_next}, FramesRead.{BeginsFlowAt}}

-- ---- one frame

abbrev pub flow_base : Option Flow → ℕ
flow_base None = 0
flow_base (Some flow) = flow.base

-- how it was closed, so far
abbrev pub close_of : Option Flow → FlowClose
close_of None = not_closed
close_of (Some flow) = flow.close

-- a steered frame as it is offered, where these flows were there before it
abbrev pub offered_one : List Flow → SteeredTcp → Offered
offered_one flows s = record {
  app = s.app;
  frame = s.record_number;
  flow = number_of_flow flows s;
  base = flow_base (slice_get (flows_with flows s) (number_of_flow flows s));
  seq = first_byte s.segment;
  fin = has_fin s.segment;
  payload = counted_part (close_of (slice_get (flows_with flows s) (number_of_flow flows s))) s.segment;
}

abbrev pub has_payload : Offered → Bool
has_payload o = not (length o.payload == 0)

-- the frame that is offered, if it is steered and some of its payload counts
abbrev pub offer_one : List Flow → Option SteeredTcp → Option Offered
offer_one flows None = None
offer_one flows (Some s) = if has_payload (offered_one flows s) then Some (offered_one flows s) else None

-- the next frame, behind these
abbrev pub offer_next : List ℕ → List (List ℕ) → List ℕ → Option Offered
offer_next ports before frame = offer_one (flows_of (steered_in ports before)) (steered_next ports before frame)

-- the payload of a segment, or none
abbrev pub payload_of_segment : Option TcpSegment → List ℕ
payload_of_segment None = []
payload_of_segment (Some segment) = segment.payload

-- the payload in a frame, or none
abbrev pub payload_in : List ℕ → List ℕ
payload_in frame = payload_of_segment (segment_of (class_of frame))

-- ---- all frames

abbrev pub offered_after : List Flow → List SteeredTcp → List Offered
offered_after flows [] = []
offered_after flows (s ∷ others) = offered_one flows s ∷ offered_after (flows_with flows s) others

-- the frames that are offered, of these steered ones
abbrev pub offers_of : List SteeredTcp → List Offered
offers_of steered = filter has_payload (offered_after [] steered)

-- those whose numbers aren't among these
abbrev pub offers_without : List ℕ → List Offered → List Offered
offers_without left_out offers = filter (λ o. not (list_any (λ number. number == o.frame) left_out)) offers

-- ---- frames that were refused

-- one of these frames has this number, and more than `split` bytes of it count
abbrev pub IsLongIn : ℕ → List Offered → ℕ → Type 0
IsLongIn split offers number = (o : Offered) × Contains offers o × (o.frame ≡ number) × (split < length o.payload)

-- They rise, and each is the number of a frame of which more than `split` bytes count.
pub record AreRefused (split : ℕ) (offers : List Offered) (refused : List ℕ) : Type 0 where
  pub rise : AllPairs (λ m n. m < n) refused
  pub each : All (IsLongIn split offers) refused

-- ---- what became of the frames

-- All frames are settled but the one at hand, which is the last.
abbrev pub Awaits : Option Offered → List Offered → List Offered → Type 0
Awaits None offers settled = settled ≡ offers
Awaits (Some o) offers settled = settled ++ o ∷ [] ≡ offers

-- The notes show, one after another, the frames that were offered, but those that were refused and the one at hand.
pub record AreSettled (split : ℕ) (offers : List Offered) (refused : List ℕ) (hand : Option Offered) (notes : List SentNote) : Type 0 where
  pub settled : List Offered
  pub awaits : Awaits hand offers settled
  pub refused_are : AreRefused split settled refused
  pub shown : ShowFrames split (offers_without refused settled) notes

-- ---- memory

-- the frame is offered, and more than `split` bytes of it count, so it may be refused
abbrev pub IsLong : ℕ → Option Offered → Type 0
IsLong split None = ⊥
IsLong split (Some o) = split < length o.payload

-- A frame wants memory where a flow begins with it, and where its number may have to be kept.
abbrev pub WantsRoom : ℕ → List ℕ → List (List ℕ) → List ℕ → Type 0
WantsRoom split ports before frame = BeginsFlowAt ports before frame ⊎ IsLong split (offer_next ports before frame)
