-- Where the reading of a list of frames ends, and which frames came before.
use Rattle.std.specs.Prelude.{◌≡◌, ℕ, suc, List, [], ◌∷◌, ◌++◌, length, map, ◌==◌, if◌then◌else◌, Option, Some, None}
use Rattle.zr_kinds.specs.{Limits.{most_flows, most_records}, declared.fault.Fault.{Fault, TheVariants.{TooManyFlows, TooManyFrames}}}
use Rattle.pcap_reader.specs.Records.{Captured}
use Rattle.pcapng_reader.specs.Records.{records_of}
use Rattle.frame_headers.specs.{FrameClass.{class_of}, Seen.{segment_of}}
use Rattle.flow_table.specs.{Steered.{SteeredTcp, steered_of, segments_of, steer}, Flows.{Flow, flows_of, number_of_flow}}

-- the steered segments of a list of frames
abbrev pub steered_in : List ℕ → List (List ℕ) → List SteeredTcp
steered_in ports frames = steered_of ports (segments_of frames)

-- the next frame's segment, where it is steered
abbrev pub steered_next : List ℕ → List (List ℕ) → List ℕ → Option SteeredTcp
steered_next ports before frame = steer ports (suc (length before)) (segment_of (class_of frame))

-- a segment that would begin a flow too many ends the reading
abbrev pub flow_ending : List Flow → Option SteeredTcp → Option Fault
flow_ending flows None = None
flow_ending flows (Some steered) = if number_of_flow flows steered == most_flows then Some TooManyFlows else None

-- a flow begins with the segment
abbrev pub BeginsFlow : List Flow → Option SteeredTcp → Type 0
BeginsFlow flows None = ⊥
BeginsFlow flows (Some steered) = number_of_flow flows steered ≡ length flows

-- What ends the reading at a frame, if anything, where these frames came before. No more than 2^24 frames are read;
-- this decides before the flow.
unfoldable pub ending_at : List ℕ → List (List ℕ) → List ℕ → Option Fault
ending_at ports before frame =
    if length before == most_records then Some TooManyFrames
    else flow_ending (flows_of (steered_in ports before)) (steered_next ports before frame)

-- the frames before the ending, and the fault that ended the reading, if any
pub record Ending : Type 0 where
  pub before : List (List ℕ)
  pub fault : Option Fault

abbrev pub ended_or : Option Fault → List (List ℕ) → Ending → Ending
ended_or None before later = later
ended_or (Some fault) before later = record { before = before; fault = Some fault }

-- The reading of more frames, behind which the bytes end by this fault or without one.
unfoldable pub ended_after : List ℕ → List (List ℕ) → List (List ℕ) → Option Fault → Ending
ended_after ports before [] fault = record { before = before; fault = fault }
ended_after ports before (frame ∷ frames) fault =
    ended_or (ending_at ports before frame) before (ended_after ports (before ++ frame ∷ []) frames fault)

abbrev pub frames_of : List Captured → List (List ℕ)
frames_of records = map (λ found. found.frame) records

-- the reading of a capture's bytes
unfoldable pub ended_of : List ℕ → List ℕ → Ending
ended_of ports bytes = ended_after ports [] (frames_of (records_of bytes).all) (records_of bytes).fault
