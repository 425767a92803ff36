-- In which way an application takes its loans: in turns of its own, polled as a stream, or handed on. One turn comes behind another, from
-- a side at which nothing was done.
use Rattle.std.specs.Prelude.{◌≡◌, ℕ, true, List, [], Option, Some, None, ⊤}
use Rattle.zr_io.specs.Moved.{ShelfCounts}
use Rattle.board_face.specs.{Opened.{new_app_view}, declared.views.{parts.Setting.{Setting}, app.AppView.{AppView}}}
use Rattle.flow_queues.specs.Ends.{AppEnd}
use Rattle.app_worker.specs.{Kept.{new_state}, State.{State}, StateOf.{end_of}, Turns.{Turns}, declared.turn.{Turn.{Turn, TheVariants.{Idle as idle}}}}
use Rattle.zc_poll.specs.{Fresh.{new_stream_desk}, PourTurns.{PourStage, PourTurnDoes as poll_does, pour_end, pour_stage}}
use Rattle.zc_poll.specs.declared.{step.Waits.TheVariants.{Enough}, to_shelf.{Poured.{Poured}, Rests.TheVariants.{Stream}}}
use Rattle.zc_poll.specs.declared.to_shelf.PollTurn.{PollTurn, TheVariants.{Did, Ended, Idle as waiting}}
use Rattle.zc_forward.specs.{Sending.{new_outbox}, Turns.{KeepsDelay, Stage, TurnDoes as forward_does, stage_of}}
use Rattle.card_feed.specs.{Plan.{TakesTurns}, declared.plan.Plan.{Plan}}
use Rattle.run_account.specs.Behind.{Behind}

-- between two turns of its own: what it keeps, what it has seen, what its shelf has, and how often that failed
pub record OwnMoment : Type 0 where
  pub state : State
  pub view : AppView
  pub kept : ℕ → Option (List ℕ)
  pub losses : ShelfCounts

abbrev pub OwnTurn : OwnMoment → OwnMoment → Type 0
OwnTurn was now = (turn : Turn) × Turns was.state now.state was.view now.view was.kept now.kept was.losses.faults now.losses.faults turn

-- between two turns of what pours a stream's loans, and what it ended with
pub record PollMoment : Type 0 where
  pub stage : PourStage
  pub poured : Option Poured

-- between two turns of what hands them on
pub record ForwardMoment : Type 0 where
  pub stage : Stage
  pub poured : Option Poured

-- what the turn ended with
abbrev pub poured_by : PollTurn → Option Poured
poured_by Did = None
poured_by (waiting why) = None
poured_by (Ended poured) = Some poured

abbrev pub PollTurns : PollMoment → PollMoment → Type 0
PollTurns was now = (turn : PollTurn) × (was.poured ≡ None) × (now.poured ≡ poured_by turn)
    × poll_does was.stage now.stage turn

-- A turn of handing on, by a carrier that keeps to one delay.
abbrev pub ForwardTurns : ForwardMoment → ForwardMoment → Type 0
ForwardTurns was now = (turn : PollTurn) × (was.poured ≡ None) × (now.poured ≡ poured_by turn)
    × forward_does was.stage now.stage turn × KeepsDelay was.stage now.stage

-- the turn did something
abbrev pub DidOwn : Turn → Type 0
DidOwn (idle why) = ⊥
DidOwn turn = ⊤

-- or it took notes of which it had no item yet
abbrev pub DidPoll : PollTurn → Type 0
DidPoll (waiting (Stream Enough)) = ⊤
DidPoll (waiting why) = ⊥
DidPoll turn = ⊤

-- ---- since nothing was done

abbrev pub TurnedSince : Plan → (ℕ → Option (List ℕ)) → ShelfCounts → OwnMoment → Type 0
TurnedSince plan first count now = TakesTurns plan × (setting : Setting) × (a : ℕ)
    × Behind OwnTurn (record { state = new_state a plan.options.ring plan.options.how; view = new_app_view setting a; kept = first; losses = count }) now

abbrev pub PolledSince : Plan → PollMoment → Type 0
PolledSince plan now = (plan.options.polled ≡ true) × (setting : Setting) × (a : ℕ)
    × Behind PollTurns (record { stage = pour_stage None (new_stream_desk a) (new_app_view setting a); poured = None }) now

abbrev pub first_stage : Setting → ℕ → ℕ → ℕ → Stage
first_stage setting a room delay = stage_of (new_outbox room) (new_stream_desk a) [] (record { delay = delay; looks = 0 }) (new_app_view setting a)

abbrev pub ForwardedSince : Plan → ForwardMoment → Type 0
ForwardedSince plan now = (setting : Setting) × (a room delay : ℕ) × (plan.options.forward ≡ Some delay)
    × Behind ForwardTurns (record { stage = first_stage setting a room delay; poured = None }) now

-- An application came to its view, and left with this, in the way that the plan says, since its shelf had `first` and had failed
-- `count` times.
pub data HasCome (plan : Plan) (first kept : ℕ → Option (List ℕ)) (count losses : ShelfCounts) (v : AppView) (end : AppEnd) : Type 0 where
  by_turns : (state : State) → end ≡ end_of state
      → TurnedSince plan first count (record { state = state; view = v; kept = kept; losses = losses }) → HasCome plan first kept count losses v end
  by_polls : (now : PourStage) (poured : Poured) → now.view ≡ v → end ≡ pour_end poured
      → PolledSince plan (record { stage = now; poured = Some poured }) → HasCome plan first kept count losses v end
  by_forwards : (now : Stage) (poured : Poured) → now.view ≡ v → end ≡ pour_end poured
      → ForwardedSince plan (record { stage = now; poured = Some poured }) → HasCome plan first kept count losses v end
