-- What the roles of a run keep, and how that stands to their sides and to what was read, sent and written since the first turn. It is
-- over the sides of the roles alone, so it is the same for every board.
use Rattle.std.specs.{Prelude.{◌≡◌, ◌≢◌, ℕ, ◌<◌, ◌≤◌, true, false, List, All, length, map, drop, Option, Some}, List.{slice_get}}
use Rattle.zr_kinds.specs.{Limits.{most_records}, declared.behaviour.Behaviour.{Behaviour}}
use Rattle.zr_kinds.specs.declared.behaviour.Stopped.TheVariants as stop
use Rattle.zr_io.specs.Moved.{Rose, ShelfCounts, raised_by}
use Rattle.board_face.specs.{AppCalls.{IsHere}, Sides.{side_in}, declared.views.{nic.NicSide.{NicSide}, app.{AppSide.{AppSide}, AppView.{AppView}}}}
use Rattle.flow_queues.specs.{Ends.{AppEnd, HasLeft}, Shelves.{AreShelved, AreFronts}, Returned.{HasReturned}, Streams.{HasFronts, HasAll}}
use Rattle.app_worker.specs.{StateOf.{end_of}, Kept.{new_state, IsFreshApp}, Marks.{FramesStandTogether}, State.{AppStands}}
use Rattle.card_feed.specs.{Feed.{FeedState, IsFeedReady, FeedStands}, Plan.{IsPlan, TakesTurns, layout_of, how_of}, declared.plan.Plan.{Plan}}
use Rattle.run_account.specs.{CardTurns.{CardTurns}, Views.{Ends, Streams, counts_at, kept_at}, Ways.{HasCome, TurnedSince}, declared.run.{Run.{Run}, Worker.{Worker}}}

-- ---- what is kept fits the sides

-- An application's state stands to its side. It is there until it has left.
pub record WorkerFits (v : AppView) (w : Worker) : Type 0 where
  pub stands : AppStands w.state v
  pub here : w.left ≡ false → IsHere v
  pub gone : w.left ≡ true → (v.left ≡ true) × (w.state.bare ≡ true)

-- The feed fits the card's side, and each state its application's.
pub record RolesFit (nic : NicSide) (apps : List AppSide) (run : Run) : Type 0 where
  pub ready : IsFeedReady run.feed nic.view
  pub worker : (a : ℕ) (w : Worker) → slice_get run.workers.items a ≡ Some w → WorkerFits (side_in apps a).view w

-- ---- a run at which nobody has taken a turn

pub record IsNewWorker (plan : Plan) (a : ℕ) (w : Worker) : Type 0 where
  pub state_is : w.state ≡ new_state a plan.options.ring plan.options.how
  pub left_is : w.left ≡ false
  pub stands : (v : AppView) → IsFreshApp a v → AppStands w.state v
  pub shelved : (kept : ℕ → Option (List ℕ)) (v : AppView) → AreShelved kept kept w.state.flows v

-- one application for each port
pub record AreNew (plan : Plan) (workers : List Worker) : Type 0 where
  pub many : length workers ≡ length plan.ports.items
  pub each : (a : ℕ) (w : Worker) → slice_get workers a ≡ Some w → IsNewWorker plan a w

-- ---- what was read, sent and written since the first turn

-- One application: what its shelf has, by the marks of the notes that it took, and why it stopped.
pub record WorkerRuns (first kept : ℕ → Option (List ℕ)) (losses losses_now : ShelfCounts) (how : Behaviour) (v : AppView) (w : Worker) : Type 0 where
  pub how_is : w.state.how ≡ how
  pub shelved : w.state.stopped ≢ stop.Write → AreShelved first kept w.state.flows v
  pub failed : w.state.stopped ≡ stop.Write → AreFronts first kept w.state.flows v
  pub later : losses.faults ≤ losses_now.faults
  pub cause : w.state.stopped ≡ stop.Write → Rose losses.faults losses_now.faults
  pub still : w.state.stopped ≢ stop.Write → losses_now.faults ≡ losses.faults
  pub appended : losses_now.appended ≡ raised_by losses.appended w.state.written
  pub fronts : FramesStandTogether v.taken → HasFronts first kept v
  pub whole : w.left ≡ true → w.state.stopped ≡ stop.No → FramesStandTogether v.taken → HasAll first kept v
  pub copies : w.state.copied ≤ w.state.loans
  pub counts : w.left ≡ true → w.state.stopped ≡ stop.No → w.state.loans ≤ w.state.written

-- So it runs as the plan says, and it came to that by turns of its own.
pub record WorkerGoes (plan : Plan) (first kept : ℕ → Option (List ℕ)) (losses losses_now : ShelfCounts) (v : AppView) (w : Worker) : Type 0 where
  pub runs : WorkerRuns first kept losses losses_now plan.options.how v w
  pub came : TurnedSince plan first losses (record { state = w.state; view = v; kept = kept; losses = losses_now })

-- The run so far of a plan whose applications take turns: these frames were read, and the card stands by them and came to that by turns,
-- each application stands by what it took, and no other shelf was touched.
pub record Running {S T : Type 0} {m : Streams S T} (was now : Ends m) (plan : Plan) (nic : NicSide) (apps : List AppSide) (run : Run)
    : Type 0 where
  pub plan_is : IsPlan plan
  pub by_turns : TakesTurns plan
  pub frames : List (List ℕ)
  pub feed : FeedStands m.source.left m.source.failed was.source now.source plan.ports.items plan.options.split frames run.feed nic.view
  pub turns : CardTurns plan.ports.items plan.options.split frames run.feed nic.view
  pub setting : nic.view.setting ≡ record { layout = layout_of plan; places = plan.options.ring }
  pub many : length run.workers.items ≡ length plan.ports.items
  pub worker : (a : ℕ) (w : Worker) → slice_get run.workers.items a ≡ Some w
      → WorkerGoes plan (kept_at was a) (kept_at now a) (counts_at was a) (counts_at now a) (side_in apps a).view w
  pub many_shelves : length now.shelves ≡ length was.shelves
  pub beyond : drop (length plan.ports.items) now.shelves ≡ drop (length plan.ports.items) was.shelves
  -- No more records were read than are read at most, and each entry that was dealt with is of an application.
  pub records : run.feed.tally.records ≤ most_records
  pub dealt : All (λ d. d.app < length plan.ports.items) nic.view.dealt

-- what the applications leave, once they have left
abbrev pub ends_of : List Worker → List AppEnd
ends_of workers = map (λ (w : Worker). end_of w.state) workers

-- The card was closed and every application has left.
pub record IsRunOver (run : Run) : Type 0 where
  pub card : run.feed.closed ≡ true
  pub apps : All (λ (w : Worker). w.left ≡ true) run.workers.items

-- The run of a plan that is over, as plain data: these frames were read and the card stands by them, came to that by turns and was closed,
-- each application has left with this, to which it came in the way that the plan says, and no other shelf was touched.
pub record HasRun {S T : Type 0} {m : Streams S T} (was now : Ends m) (plan : Plan) (nic : NicSide) (apps : List AppSide) (feed : FeedState)
    (ends : List AppEnd) : Type 0 where
  pub plan_is : IsPlan plan
  pub frames : List (List ℕ)
  pub stands : FeedStands m.source.left m.source.failed was.source now.source plan.ports.items plan.options.split frames feed nic.view
  pub turns : CardTurns plan.ports.items plan.options.split frames feed nic.view
  pub ready : IsFeedReady feed nic.view
  pub closed : feed.closed ≡ true
  pub setting : nic.view.setting ≡ record { layout = layout_of plan; places = plan.options.ring }
  pub many : length ends ≡ length plan.ports.items
  pub app : (a : ℕ) (end : AppEnd) → slice_get ends a ≡ Some end
      → HasLeft (how_of plan) (kept_at was a) (kept_at now a) (counts_at was a) (counts_at now a) (side_in apps a).view end
  pub came : (a : ℕ) (end : AppEnd) → slice_get ends a ≡ Some end
      → HasCome plan (kept_at was a) (kept_at now a) (counts_at was a) (counts_at now a) (side_in apps a).view end
  pub returned : (a : ℕ) (end : AppEnd) → slice_get ends a ≡ Some end → HasReturned (how_of plan) end.stopped end.written (side_in apps a).view
  pub many_shelves : length now.shelves ≡ length was.shelves
  pub beyond : drop (length plan.ports.items) now.shelves ≡ drop (length plan.ports.items) was.shelves
  pub records : feed.tally.records ≤ most_records
  pub dealt : All (λ d. d.app < length plan.ports.items) nic.view.dealt
