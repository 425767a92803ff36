-- The frame that is at hand, and what always holds of it.
use Rattle.std.specs.{Prelude.{◌≡◌, ℕ, ◌<◌, ◌≤◌, nat_lt, if◌then◌else◌, List, length, take, Option, Some, None}, List.{slice_get}}
use Rattle.zr_kinds.specs.Limits.{longest_payload}
use Rattle.flow_table.specs.{Steered.{app_of}, Flows.{Flow}}
use Rattle.page_pool.specs.Frames.{Offered}
use Rattle.card_feed.specs.{declared.intake.Route.{Route}, Offered.{payload_in}}

-- ---- what always holds

-- each flow's application is that of its port
abbrev pub HaveApps : List ℕ → List Flow → Type 0
HaveApps ports flows = (number : ℕ) (flow : Flow) → slice_get flows number ≡ Some flow → app_of ports flow.key.dport ≡ Some flow.app

-- the frame at hand has some bytes that count, for one of so many applications
pub record HandFits (apps : ℕ) (frame : List ℕ) (route : Route) : Type 0 where
  pub app : route.app < apps
  pub len : route.len ≤ length (payload_in frame)
  pub some : 0 < route.len
  pub most : route.len ≤ longest_payload

-- where a segment goes, by its payload
pub record RouteFits (ports payload : List ℕ) (route : Route) : Type 0 where
  pub app : route.app < length ports
  pub len : route.len ≤ length payload
  pub most : length payload ≤ longest_payload

-- a frame of which no byte counts isn't offered
abbrev pub with_payload : Option Route → Option Route
with_payload None = None
with_payload (Some r) = if nat_lt 0 r.len then Some r else None

-- there is room to note that it was refused, if it may be
abbrev pub HasRoomToRefuse : ℕ → List ℕ → ℕ → Route → Type 0
HasRoomToRefuse split refused capacity route = split < route.len → length refused < capacity

-- ---- where a frame goes

-- a frame as it is offered, by where it goes and what counts of its payload
abbrev pub offered_by : Route → List ℕ → Offered
offered_by r payload = record { app = r.app; frame = r.frame; flow = r.flow; base = r.base; seq = r.seq; fin = r.fin; payload = payload }

-- the frame at hand
abbrev pub at_hand : Option Route → List ℕ → Option Offered
at_hand None frame = None
at_hand (Some r) frame = Some (offered_by r (take r.len (payload_in frame)))
