-- What sits in the lanes of the applications, and how it goes on there.
use Rattle.std.specs.{Prelude.{◌≡◌, ℕ, ◌≤◌, Bool, true, List, [], length, Option, Some, None}, List.{slice_get}, Option.{is_some}}
use Rattle.zr_kinds.specs.{Options.{plain_behaviour}, declared.behaviour.Behaviour.{Behaviour}}
use Rattle.zr_kinds.specs.declared.behaviour.Stopped.TheVariants as stop
use Rattle.zr_io.specs.Moved.{ShelfCounts}
use Rattle.board_face.specs.declared.views.app.AppView.{AppView}
use Rattle.flow_queues.specs.{Ends.{AppEnd, HasLeft}, Returned.{HasReturned}}
use Rattle.app_worker.specs.{State.{State}, StateOf.{end_of as worker_end}}
use Rattle.zc_forward.specs.{Carriage.{Carriage, pace_of}, Forwarding.{ForwardStands}, Turns.{ForwardView, Stage, stage_of}}
use Rattle.zc_poll.specs.{Pouring.{PourStands}, PourTurns.{PourView, pour_end, pour_stage}, declared.to_shelf.Poured.{Poured}}
use Rattle.card_feed.specs.{Plan.{TakesTurns, how_of}, declared.plan.Plan.{Plan}}
use Rattle.run_account.specs.Running.{IsNewWorker, WorkerFits, WorkerRuns}
use Rattle.run_account.specs.Ways.{DidOwn, DidPoll, ForwardMoment, ForwardTurns, ForwardedSince, OwnMoment, OwnTurn, PollMoment, PollTurns, PolledSince, TurnedSince}
use Rattle.word_board.specs.Board.{TheApp}
use Rattle.replay_threads.specs.declared.seated.{Forwarding.{Forwarding}, Left.{Left, TheVariants.{Turned, Poured as poured_out}}, Pouring.{Pouring}}
use Rattle.replay_threads.specs.declared.seated.{Seated.{Seated}, Came.{Came, TheVariants.{Did}}, Start.{Start}}
use Rattle.replay_threads.specs.declared.seated.Seated.TheVariants as sits
use Rattle.replay_threads.specs.declared.seated.Start.TheVariants as start

-- ---- what it has

abbrev pub seat_of : {T : Type 0} → Seated T → TheApp
seat_of (sits.Turning own) = own.seat
seat_of (sits.Pouring own) = own.stream.face
seat_of (sits.Forwarding own) = own.forward.face

abbrev pub shelf_of : {T : Type 0} → Seated T → T
shelf_of (sits.Turning own) = own.shelf
shelf_of (sits.Pouring own) = own.stream.shelf
shelf_of (sits.Forwarding own) = own.forward.carrier.shelf

-- it has left
abbrev pub is_gone : {T : Type 0} → Seated T → Bool
is_gone (sits.Turning own) = own.worker.left
is_gone (sits.Pouring own) = is_some own.poured
is_gone (sits.Forwarding own) = is_some own.poured

-- ---- what it leaves

-- before anything was written
abbrev pub no_end : AppEnd
no_end = record { written = 0; loans = 0; copied = 0; stopped = stop.No; flows = [] }

abbrev pub poured_end : Option Poured → AppEnd
poured_end None = no_end
poured_end (Some poured) = pour_end poured

-- what it has left with, once it has left
abbrev pub end_of_seated : {T : Type 0} → Seated T → AppEnd
end_of_seated (sits.Turning own) = worker_end own.worker.state
end_of_seated (sits.Pouring own) = poured_end own.poured
end_of_seated (sits.Forwarding own) = poured_end own.poured

abbrev pub left_end : Left → AppEnd
left_end (Turned worker) = worker_end worker.state
left_end (poured_out poured) = pour_end poured

-- ---- turns

-- What pours stands by what it took and wrote, since its shelf had `first` and had failed `count` times.
abbrev pub PoursSince : {T : Type 0} → (T → ℕ → Option (List ℕ)) → (T → ShelfCounts) → PourView TheApp T → (ℕ → Option (List ℕ)) → ShelfCounts → Type 0
PoursSince kept losses stream first count =
    PourStands first count stream.tally stream.desk (kept stream.shelf) (losses stream.shelf) stream.face.side.view

-- and so does what forwards
abbrev pub ForwardsSince : {T : Type 0} → (T → ℕ → Option (List ℕ)) → (T → ShelfCounts) → ForwardView TheApp (Carriage T) → (ℕ → Option (List ℕ)) → ShelfCounts → Type 0
ForwardsSince kept losses forward first count = ForwardStands first count forward.work forward.desk forward.carrier.out
    (kept forward.carrier.shelf) (losses forward.carrier.shelf) forward.face.side.view

-- it stands since some beginning, or it has left
abbrev pub StandsOn : ((ℕ → Option (List ℕ)) → ShelfCounts → Type 0) → AppView → Option Poured → Type 0
StandsOn Since v None = (first : ℕ → Option (List ℕ)) × (count : ShelfCounts) × Since first count
StandsOn Since v (Some poured) = v.left ≡ true

abbrev pub FitsSide : {T : Type 0} → (T → ℕ → Option (List ℕ)) → (T → ShelfCounts) → Seated T → Type 0
FitsSide kept losses (sits.Turning own) = WorkerFits own.seat.side.view own.worker
FitsSide kept losses (sits.Pouring own) = StandsOn (PoursSince kept losses own.stream) own.stream.face.side.view own.poured
FitsSide kept losses (sits.Forwarding own) = StandsOn (ForwardsSince kept losses own.forward) own.forward.face.side.view own.poured

-- What it keeps fits its side.
pub record Fits {T : Type 0} (kept : T → ℕ → Option (List ℕ)) (losses : T → ShelfCounts) (seated : Seated T) : Type 0 where
  pub side : FitsSide kept losses seated

-- it stands since that beginning, or has left with what was written since
abbrev pub RunsOn : Type 0 → (ℕ → Option (List ℕ)) → (ℕ → Option (List ℕ)) → ShelfCounts → ShelfCounts → AppView → Option Poured → Type 0
RunsOn Stands first kept count losses v None = Stands
RunsOn Stands first kept count losses v (Some poured) =
    HasLeft plain_behaviour first kept count losses v (pour_end poured) × HasReturned plain_behaviour poured.stopped poured.written v

-- its part of the run so far, since its shelf had `first` and had failed `count` times
abbrev pub Runs : {T : Type 0} → (T → ℕ → Option (List ℕ)) → (T → ShelfCounts) → (ℕ → Option (List ℕ)) → ShelfCounts → Behaviour → Seated T → Type 0
Runs kept losses first count how (sits.Turning own) =
    WorkerRuns first (kept own.shelf) count (losses own.shelf) how own.seat.side.view own.worker
Runs kept losses first count how (sits.Pouring own) = (how ≡ plain_behaviour)
    × RunsOn (PoursSince kept losses own.stream first count) first (kept own.stream.shelf) count (losses own.stream.shelf) own.stream.face.side.view own.poured
Runs kept losses first count how (sits.Forwarding own) = (how ≡ plain_behaviour)
    × RunsOn (ForwardsSince kept losses own.forward first count) first (kept own.forward.carrier.shelf) count (losses own.forward.carrier.shelf)
    own.forward.face.side.view own.poured

-- ---- in which way

abbrev pub own_moment : {T : Type 0} → (T → ℕ → Option (List ℕ)) → (T → ShelfCounts) → T → State → AppView → OwnMoment
own_moment kept losses shelf state v = record { state = state; view = v; kept = kept shelf; losses = losses shelf }

abbrev pub poll_moment : {T : Type 0} → Pouring T → PollMoment
poll_moment own = record { stage = pour_stage own.stream.tally.due own.stream.desk own.stream.face.side.view; poured = own.poured }

abbrev pub stage_now : {T : Type 0} → ForwardView TheApp (Carriage T) → Stage
stage_now forward = stage_of forward.work forward.desk forward.carrier.out (pace_of forward.carrier) forward.face.side.view

abbrev pub forward_moment : {T : Type 0} → Forwarding T → ForwardMoment
forward_moment own = record { stage = stage_now own.forward; poured = own.poured }

-- it took its turns in the plan's way, since its shelf had `first` and had failed `count` times
abbrev pub Comes : {T : Type 0} → (T → ℕ → Option (List ℕ)) → (T → ShelfCounts) → Plan → (ℕ → Option (List ℕ)) → ShelfCounts → Seated T → Type 0
Comes kept losses plan first count (sits.Turning own) = TurnedSince plan first count (own_moment kept losses own.shelf own.worker.state own.seat.side.view)
Comes kept losses plan first count (sits.Pouring own) = PolledSince plan (poll_moment own)
Comes kept losses plan first count (sits.Forwarding own) = ForwardedSince plan (forward_moment own)

-- One turn, of whatever sits there, and what it came to.
abbrev pub TakesTurn : {T : Type 0} → (T → ℕ → Option (List ℕ)) → (T → ShelfCounts) → Seated T → Seated T → Came → Type 0
TakesTurn kept losses (sits.Turning was) (sits.Turning now) came =
    (turn : OwnTurn (own_moment kept losses was.shelf was.worker.state was.seat.side.view)
    (own_moment kept losses now.shelf now.worker.state now.seat.side.view)) × (came ≡ Did → DidOwn turn.0)
TakesTurn kept losses (sits.Pouring was) (sits.Pouring now) came =
    (turn : PollTurns (poll_moment was) (poll_moment now)) × (came ≡ Did → DidPoll turn.0)
TakesTurn kept losses (sits.Forwarding was) (sits.Forwarding now) came =
    (turn : ForwardTurns (forward_moment was) (forward_moment now)) × (came ≡ Did → DidPoll turn.0)
TakesTurn kept losses was now came = ⊥

-- Some turns: what it keeps fits its side again, at the same seat, and it goes on with its part of the run.
pub record SeatedGoes {T : Type 0} (kept : T → ℕ → Option (List ℕ)) (losses : T → ShelfCounts) (was now : Seated T) : Type 0 where
  pub board : (seat_of now).board ≡ (seat_of was).board
  pub app : (seat_of now).side.view.app ≡ (seat_of was).side.view.app
  pub fits : Fits kept losses now
  pub runs : (first : ℕ → Option (List ℕ)) (count : ShelfCounts) (how : Behaviour)
      → Runs kept losses first count how was → Runs kept losses first count how now
  pub comes : (plan : Plan) (first : ℕ → Option (List ℕ)) (count : ShelfCounts)
      → Comes kept losses plan first count was → Comes kept losses plan first count now

-- ---- the beginning

-- what the application with this number begins with, by its plan
abbrev pub IsStart : Plan → ℕ → Start → Type 0
IsStart plan a (start.Turning worker) = TakesTurns plan × IsNewWorker plan a worker
IsStart plan a start.Pouring = (how_of plan ≡ plain_behaviour) × (plan.options.polled ≡ true)
IsStart plan a (start.Forwarding delay) = (how_of plan ≡ plain_behaviour) × (delay ≤ 63) × (plan.options.forward ≡ Some delay)

-- one for each port
pub record AreStarts (plan : Plan) (starts : List Start) : Type 0 where
  pub many : length starts ≡ length plan.ports.items
  pub each : (a : ℕ) (s : Start) → slice_get starts a ≡ Some s → IsStart plan a s

-- It has taken no turn: its part of the run begins with what its shelf has.
pub record BeginsLane {T : Type 0} (kept : T → ℕ → Option (List ℕ)) (losses : T → ShelfCounts) (plan : Plan) (seated : Seated T) : Type 0 where
  pub fits : Fits kept losses seated
  pub runs : Runs kept losses (kept (shelf_of seated)) (losses (shelf_of seated)) (how_of plan) seated
  pub comes : Comes kept losses plan (kept (shelf_of seated)) (losses (shelf_of seated)) seated
