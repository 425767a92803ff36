-- What the card keeps of what it reads.
use Rattle.std.specs.Prelude.{◌≡◌, ℕ, ◌⊎◌, false, List, [], ◌∷◌, ◌++◌, length, take, Option, Some, None, Result, Ok, Err}
use Rattle.zr_kinds.specs.declared.fault.Fault.{Fault, TheVariants.{Memory}}
use Rattle.flow_table.specs.{Steered.{SteeredTcp}, Flows.{flows_of, flows_with}, KnownFlows.{KnownFlows}}
use Rattle.card_feed.specs.{Ending.{steered_in, flow_ending, BeginsFlow, ending_at}, FramesRead.{EndsAt}, Tally.{tally_of}}
use Rattle.card_feed.specs.{declared.{intake.{Route.{Route}, Intake.{Intake}, Stage.{Stage}}, arrived.Arrived.{Arrived}}, Coming.{is_over}}
use Rattle.card_feed.specs.{Offered.{offered_one, offer_one, offer_next, WantsRoom, IsLong}, Hand.{offered_by, at_hand}}
use Rattle.card_feed.specs.declared.intake.Stage.TheVariants as stage
use Rattle.card_feed.specs.declared.arrived.Arrived.TheVariants as arrived

-- the segment goes where the definition says, and its flow has seen it
pub record IsRouteOf (old new : KnownFlows) (s : SteeredTcp) (r : Route) : Type 0 where
  pub offered_is : offered_by r (take r.len s.segment.payload) ≡ offered_one old.flows s
  pub len : r.len ≡ length (offered_one old.flows s).payload
  pub known : new ≡ record { ports = old.ports; flows = flows_with old.flows s }

abbrev pub RoutesTo : KnownFlows → KnownFlows → Option SteeredTcp → Option Route → Type 0
RoutesTo old new None None = new ≡ old
RoutesTo old new (Some s) (Some r) = IsRouteOf old new s r
RoutesTo old new None (Some r) = ⊥
RoutesTo old new (Some s) None = ⊥

-- what became of a segment that is steered so
abbrev pub Steers : ℕ → KnownFlows → KnownFlows → Option SteeredTcp → Result (Option Route) Fault → Type 0
Steers split old new next (Ok found) = (flow_ending old.flows next ≡ None) × RoutesTo old new next found
Steers split old new next (Err Memory) = (flow_ending old.flows next ≡ None) × (BeginsFlow old.flows next ⊎ IsLong split (offer_one old.flows next)) × (new ≡ old)
Steers split old new next (Err fault) = (flow_ending old.flows next ≡ Some fault) × (new ≡ old)

-- ---- one frame more

-- these frames were counted, and their flows saw them
pub record Knows (ports : List ℕ) (frames : List (List ℕ)) (intake : Intake) : Type 0 where
  pub tally : intake.counting.tally ≡ tally_of ports frames
  pub known : intake.table ≡ record { ports = ports; flows = flows_of (steered_in ports frames) }

-- The frame behind these was taken, and is at hand where it is offered; or it ends the reading, and none is.
abbrev pub TakesFrame : ℕ → List ℕ → List (List ℕ) → List ℕ → Intake → Result (Unit {0}) Fault → Type 0
TakesFrame split ports frames frame intake (Ok done) =
    (ending_at ports frames frame ≡ None) × Knows ports (frames ++ frame ∷ []) intake
    × (at_hand intake.hand intake.bytes.items ≡ offer_next ports frames frame)
TakesFrame split ports frames frame intake (Err fault) =
    EndsAt (WantsRoom split ports) ports frames frame fault × Knows ports frames intake × (intake.hand ≡ None)

-- ---- the reading

-- a record is read next
pub record IsReadable (intake : Intake) : Type 0 where
  pub none : intake.hand ≡ None
  pub goes : is_over intake.stage ≡ false

-- Nothing changed but how far the reading has come, and the vector of the last frame.
pub record OnlyOpens (was now : Intake) : Type 0 where
  pub hand : now.hand ≡ was.hand
  pub tally : now.counting.tally ≡ was.counting.tally
  pub table : now.table ≡ was.table
  pub refused : now.refused.items ≡ was.refused.items
  pub split : now.split ≡ was.split

-- Nothing more was read: the reading is where it was, with its count and its ports, and what may be refused is as before.
pub record ReadsNothing (was now : Intake) : Type 0 where
  pub stage_is : now.stage ≡ was.stage
  pub tally : now.counting.tally ≡ was.counting.tally
  pub ports : now.table.ports ≡ was.table.ports
  pub split : now.split ≡ was.split

-- what arrives is for an intake that wants it
abbrev pub IsTimely : Intake → Arrived → Type 0
IsTimely intake (arrived.Frame found bytes) = IsReadable intake
IsTimely intake arrived.Nothing = Unit {0}
IsTimely intake (arrived.Over end) = IsReadable intake

abbrev pub counts_as : Arrived → ℕ
counts_as (arrived.Frame found bytes) = 1
counts_as arrived.Nothing = 0
counts_as (arrived.Over end) = 1

-- the reading goes on, or this fault ended it
abbrev pub IsStageAfter : Stage → Stage → Result (Unit {0}) Fault → Type 0
IsStageAfter was now (Ok done) = now ≡ was
IsStageAfter was now (Err fault) = now ≡ stage.Over (Some fault)

-- The frame was taken, and is at hand where it is offered; or it ended the reading, and none is.
abbrev pub TakesOrEnds : ℕ → List ℕ → List (List ℕ) → List ℕ → Stage → Intake → Type 0
TakesOrEnds split ports frames frame was intake =
    (result : Result (Unit {0}) Fault) × TakesFrame split ports frames frame intake result × IsStageAfter was intake.stage result

-- What arrived was taken in.
abbrev pub TakesIn : ℕ → List ℕ → List (List ℕ) → Stage → Intake → Arrived → Type 0
TakesIn split ports frames was intake (arrived.Frame found bytes) = TakesOrEnds split ports frames bytes.items was intake
TakesIn split ports frames was intake arrived.Nothing = Knows ports frames intake
TakesIn split ports frames was intake (arrived.Over end) = Knows ports frames intake × (intake.hand ≡ None) × (intake.stage ≡ stage.Over end)
