-- What the placing of a segment in a table of flows answers and leaves. The record that the segment came in plays no
-- part, so each fact holds of its number, whichever it is.
use Rattle.std.specs.{Prelude.{◌≡◌, ℕ, ◌+◌, List, length, ◌==◌, if◌then◌else◌, Bool, Option, Some, None, option_map}, List.{slice_get}, Option.{option_and_then}}
use Rattle.frame_headers.specs.FrameClass.{TcpSegment}
use Rattle.flow_table.specs.{Steered.{SteeredTcp, app_of, has_fin, first_byte}, CountedPart.{counted_len}, Flows.{Flow, number_of_flow, flows_with}}
use Rattle.flow_table.specs.{KnownFlows.{KnownFlows}, declared.placed.{Steered.{Steered as Answer}, FlowInfo.{FlowInfo}}}
use Rattle.flow_table.specs.declared.placed.Steered.TheVariants as answer

-- a segment of a record, steered to an application
abbrev pub steered_to : ℕ → TcpSegment → ℕ → SteeredTcp
steered_to app segment record_number = record { record_number = record_number; app = app; segment = segment }

-- the number of the flow that a segment to an application belongs to, or of the one that it would begin
abbrev pub number_for : KnownFlows → TcpSegment → ℕ → Option ℕ
number_for known segment record_number =
    option_map (λ app. number_of_flow known.flows (steered_to app segment record_number)) (app_of known.ports segment.dport)

-- how many bytes of a segment count, of one of these flows, which has seen it
abbrev pub counted_at : List Flow → ℕ → TcpSegment → Option ℕ
counted_at flows flow segment = option_map (λ (f : Flow). counted_len f.close segment) (slice_get flows flow)

-- a segment was placed in the flow of a number
pub record IsPlaced (old new : KnownFlows) (segment : TcpSegment) (flow app base seq len : ℕ) (fin : Bool) : Type 0 where
  pub app_is : app_of old.ports segment.dport ≡ Some app
  pub flow_is : (record_number : ℕ) → flow ≡ number_of_flow old.flows (steered_to app segment record_number)
  pub flows_are : (record_number : ℕ) → new.flows ≡ flows_with old.flows (steered_to app segment record_number)
  pub base_is : option_map (λ (f : Flow). f.base) (slice_get new.flows flow) ≡ Some base
  pub seq_is : seq ≡ first_byte segment
  pub len_is : counted_at new.flows flow segment ≡ Some len
  pub fin_is : fin ≡ has_fin segment
  -- one more flow exactly where the segment begins it
  pub count_is : length new.flows ≡ length old.flows + (if flow == length old.flows then 1 else 0)

-- what an answer says
abbrev pub Places : KnownFlows → KnownFlows → TcpSegment → Answer → Type 0
Places old new segment answer.Elsewhere = (app_of old.ports segment.dport ≡ None) × (new ≡ old)
Places old new segment (answer.Flow flow app base seq len fin) = IsPlaced old new segment flow app base seq len fin

-- how many bytes of a segment to an application would count
abbrev pub counted_for : KnownFlows → TcpSegment → ℕ → Option ℕ
counted_for known segment record_number = option_and_then (λ app. counted_behind known.flows (steered_to app segment record_number))
    (app_of known.ports segment.dport)
  where
    counted_behind : List Flow → SteeredTcp → Option ℕ
    counted_behind flows s = counted_at (flows_with flows s) (number_of_flow flows s) s.segment

-- what is told of a flow
abbrev pub info_of : Flow → FlowInfo
info_of flow = record { app = flow.app; base = flow.base; fin = flow.close.fin; reset = flow.close.reset }
