-- The stream of a flow: what the copying receiver gives of what counts of the flow's payloads, in capture order, without the
-- records that are left out. A segment that is left out closes its flow like any other.
use Rattle.std.specs.{Prelude.{ℕ, List, [], ◌∷◌, Option, Some, None, ◌==◌, if◌then◌else◌}, List.{list_any, slice_get}}
use Rattle.zr_kinds.specs.CopyingReceiver.{Placed, nothing_placed, received, front_of}
use Rattle.flow_table.specs.{Steered.{SteeredTcp, first_byte}, CountedPart.{FlowClose, not_closed, closed_by, counted_part}, Flows.{Flow, flows_of, of_flow}}

-- What stands after these segments were received, but those that are left out. The flow was closed so before them.
abbrev pub received_all : ℕ → List ℕ → FlowClose → Placed ℕ → List SteeredTcp → Placed ℕ
received_all base left_out close placed [] = placed
received_all base left_out close placed (steered ∷ others) =
    received_all base left_out (closed_by close steered.segment)
    (if list_any (λ number. number == steered.record_number) left_out then
    placed else received base placed (first_byte steered.segment) (counted_part (closed_by close steered.segment) steered.segment))
    others

abbrev pub stream_from : Option Flow → List ℕ → List SteeredTcp → List ℕ
stream_from None left_out steered = []
stream_from (Some flow) left_out steered = front_of (received_all flow.base left_out not_closed nothing_placed steered)

unfoldable pub stream_of : List SteeredTcp → List ℕ → ℕ → List ℕ
stream_of steered left_out number = stream_from (slice_get (flows_of steered) number) left_out (of_flow number steered)
