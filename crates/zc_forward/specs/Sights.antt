-- What is seen of forwarding at one time, and what a turn makes of it.
use Rattle.std.specs.Prelude.{◌≡◌, ◌≢◌, ℕ, List, [], Option, None, Bool, IfSome, IsSomeAnd}
use Rattle.zr_kinds.specs.declared.behaviour.Stopped.TheVariants as stop
use Rattle.zr_io.specs.Moved.{ShelfCounts}
use Rattle.futures.specs.declared.task.Poll.{Poll, TheVariants.{Ready, Pending}}
use Rattle.board_face.specs.declared.views.app.{AppLook.{AppLook}, AppView.{AppView}}
use Rattle.zc_poll.specs.{Standing.{Desk}, PourTurns.{RestsAreTold, ScrubsIfQuiet}, declared.to_shelf.{Poured.{Poured}, PollTurn.{PollTurn}}}
use Rattle.zc_forward.specs.{Seats.{SameSeat}, Carrying.{Carrying}, Sending.{OutboxState}, Forwarding.{ForwardStands}, Polls.{IsLastTurn, TellsForwarded}}
use Rattle.zc_forward.specs.Turns.{Asks, ForwardGives, ForwardView, PollDoes, PollForwards, Stage, TurnDoes, stage_of}

-- what is kept, the stream's desk, what is seen of the carrier, and the view
pub record Sight : Type 0 where
  pub work : OutboxState
  pub desk : Desk
  pub carrier : Carrying
  pub view : AppView

abbrev pub sight_of : {F C : Type 0} → (F → AppView) → (C → Carrying) → ForwardView F C → Sight
sight_of seen carrying forward = record { work = forward.work; desk = forward.desk; carrier = carrying forward.carrier; view = seen forward.face }

abbrev pub stage_at : Sight → Stage
stage_at at = stage_of at.work at.desk at.carrier.tags at.carrier.pace at.view

-- it stands between two turns, since its carrier had got `first` and its counts were `losses`
abbrev pub StandsSince : (ℕ → Option (List ℕ)) → ShelfCounts → Sight → Type 0
StandsSince first losses at = ForwardStands first losses at.work at.desk at.carrier.tags at.carrier.got at.carrier.counts at.view

-- it stands so since some time, and may take a turn
abbrev pub MayTurn : Sight → Type 0
MayTurn at = (first : ℕ → Option (List ℕ)) × (losses : ShelfCounts) × StandsSince first losses at

-- this is told at its end
abbrev pub TellsAt : Sight → Poured → Type 0
TellsAt at = TellsForwarded at.work at.desk at.carrier.tags at.carrier.got at.carrier.counts at.view

-- What a turn makes of it.
pub record ForwardMakes (is_so : AppLook → Type 0) (was now : Sight) (ran : PollTurn) : Type 0 where
  -- It goes on from whatever time it stood since, or has left.
  pub gives : (first : ℕ → Option (List ℕ)) (losses : ShelfCounts) → StandsSince first losses was
      → ForwardGives first losses now.work now.desk now.carrier.tags now.carrier.got now.carrier.counts now.view ran
  -- Why it did something, waited, or ended, and which loan went back.
  pub does : TurnDoes (stage_at was) (stage_at now) ran
  -- One that was stopped and hadn't scrubbed has, where no tag is out and no loan is due, or it saw a refill slot in use.
  pub scrubs : was.work.tally.stopped ≢ stop.No → was.work.tally.due ≡ None → was.work.out ≡ [] → ScrubsIfQuiet was.view now.view
  -- The board says of the look on which it rests that it is so.
  pub told : RestsAreTold is_so ran

-- What a poll makes of it is what a turn makes.
pub record PollMakes (is_so : AppLook → Type 0) (was now : Sight) (gave : Poll Poured) : Type 0 where
  pub gives : (first : ℕ → Option (List ℕ)) (losses : ShelfCounts) → StandsSince first losses was
      → PollForwards first losses now.work now.desk now.carrier.tags now.carrier.got now.carrier.counts now.view gave
  pub does : PollDoes is_so (stage_at was) (stage_at now) gave
  pub scrubs : was.work.tally.stopped ≢ stop.No → was.work.tally.due ≡ None → was.work.out ≡ [] → ScrubsIfQuiet was.view now.view

-- ---- forwarding that gives face and carrier back

-- it is kept, and may take a turn
abbrev pub ForwardPartsMayTurn : {F C : Type 0} → (F → AppView) → (C → Carrying) → Option (ForwardView F C) → Type 0
ForwardPartsMayTurn seen carrying kept = IsSomeAnd kept (λ work. MayTurn (sight_of seen carrying work))

-- what a last turn gives and does, at the same board
abbrev pub GivesForwardParts : {F B C : Type 0} → (F → AppView) → (F → B) → (C → Carrying) → Option (ForwardView F C) → Poured × F × C → Type 0
GivesForwardParts seen beside carrying kept came = IfSome kept (λ work. (beside came.1 ≡ beside work.face)
    × ((first : ℕ → Option (List ℕ)) (losses : ShelfCounts) → StandsSince first losses (sight_of seen carrying work)
    → IsLastTurn first losses (carrying came.2).got (carrying came.2).counts (seen work.face).app (seen came.1) came.0))

-- What a poll makes of it, at the same board, and with which urge it asked the carrier for a notice, once.
pub record MakesAndAsks {F B C : Type 0} (seen : F → AppView) (beside : F → B) (carrying : C → Carrying) (answers : Bool → C → C → Option ℕ → Type 0)
    (is_so : F → AppLook → Type 0) (was now : ForwardView F C) (gave : Poll Poured) : Type 0 where
  pub makes : PollMakes (is_so now.face) (sight_of seen carrying was) (sight_of seen carrying now) gave
  pub asks : Asks answers (λ carrier. (carrying carrier).tags) (λ carrier. (carrying carrier).pace) (stage_at (sight_of seen carrying was))
      (stage_at (sight_of seen carrying now)) was.carrier now.carrier
  pub seat : SameSeat seen beside was.face now.face

-- What a poll does: the last turn, and its face and carrier are given; or another one.
abbrev pub ForwardPartsDo : {F B C : Type 0} → (F → AppView) → (F → B) → (C → Carrying) → (Bool → C → C → Option ℕ → Type 0) → (F → AppLook → Type 0)
    → ForwardView F C → Option (ForwardView F C) → Poll (Poured × F × C) → Type 0
ForwardPartsDo {F} {B} {C} seen beside carrying answers is_so was kept (Ready came) = (now : ForwardView F C) × (now.face ≡ came.1)
    × (now.carrier ≡ came.2) × MakesAndAsks seen beside carrying answers is_so was now (Ready came.0)
ForwardPartsDo seen beside carrying answers is_so was kept Pending =
    IsSomeAnd kept (λ now. MakesAndAsks seen beside carrying answers is_so was now Pending)
