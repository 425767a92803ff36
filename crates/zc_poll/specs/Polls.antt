-- What comes of polling, whatever polls are pending between: the answers of a stream, and what pouring tells at its end.
use Rattle.std.specs.{Prelude.{◌≡◌, ◌≢◌, ℕ, true, List, [], ◌∷◌, Option, Some, None, IfSome, IsSomeAnd, Result, ⊤}, declared.alloc.AllocError.{AllocError}}
use Rattle.zr_kinds.specs.declared.behaviour.Stopped.TheVariants as stop
use Rattle.zr_io.specs.Moved.{ShelfCounts}
use Rattle.futures.specs.{Poll.{OnPending}, Task.{Covers, Keeps}, declared.task.{context.Context.{Context}, Poll.{Poll, TheVariants.{Ready, Pending}}}}
use Rattle.board_face.specs.declared.views.app.{AppLook.{AppLook}, AppView.{AppView}}
use Rattle.zc_poll.specs.{Standing.{Desk}, Steps.{OnlySteps, PollGives}, declared.step.Lent.{Lent}}
use Rattle.flow_queues.specs.Counting.{TallyState}
use Rattle.zc_poll.specs.{Pouring.{CanTurn, PourStands}, declared.to_shelf.{Poured.{Poured}, PollTurn.TheVariants.{Ended}}}
use Rattle.zc_poll.specs.PourTurns.{PourGives, PourPollDoes, PourStage, PourTurnDoes, PourView, ScrubsIfQuiet, pour_stage, pour_stage_at}

-- a poll that is pending asks for another, whatever its sources do, and the task keeps what it had asked for
pub record AsksAgain {A : Type 0} (old new : Context) (result : Poll A) : Type 0 where
  pub woken : OnPending result (new.is_woken ≡ true)
  pub registered : OnPending result (Covers new (λ source. ⊤))
  pub kept : Keeps old new

-- an item, or that there was no memory
abbrev pub Answer : Type 0
Answer = Result Lent AllocError

-- the next answer, or the end, is what one step gives
pub record GivesNext (was now : Desk) (old new : AppView) (next : Option Answer) : Type 0 where
  pub only : OnlySteps old new
  pub gives : PollGives (λ _. Unit {0}) was now old new (Ready next)

-- these answers come one behind another, and then this, or the end
abbrev pub Yields : Desk → AppView → List Answer → Option Answer → Type 0
Yields was old [] last = (now : Desk) × (new : AppView) × GivesNext was now old new last
Yields was old (x ∷ xs) last = (now : Desk) × (new : AppView) × GivesNext was now old new (Some x) × Yields now new xs last

-- It is what a last turn gives and does, which left at this view. The shelf has `kept` then, and its counts are these.
pub record IsLastPourTurn (first : ℕ → Option (List ℕ)) (losses : ShelfCounts) (kept : ℕ → Option (List ℕ)) (losses_now : ShelfCounts) (app : ℕ) (new : AppView)
    (poured : Poured) : Type 0 where
  pub was : PourStage
  pub now : PourStage
  pub seen : now.view ≡ new
  pub tally : TallyState
  pub gives : PourGives first losses tally now.desk kept losses_now new (Ended poured)
  pub does : PourTurnDoes was now (Ended poured)
  pub left : new.left ≡ true
  pub same : new.app ≡ app

-- This is told at the end of what stands so, with what the shelf has and the face has seen by then.
abbrev pub TellsPoured : TallyState → Desk → (ℕ → Option (List ℕ)) → ShelfCounts → AppView → Poured → Type 0
TellsPoured w st kept losses_now v poured = (first : ℕ → Option (List ℕ)) (losses : ShelfCounts) → PourStands first losses w st kept losses_now v
    → (later : ℕ → Option (List ℕ)) × (counts : ShelfCounts) × (new : AppView) × IsLastPourTurn first losses later counts v.app new poured

-- ---- pouring that gives face and shelf back

-- it is kept, and may take a turn
abbrev pub PourPartsMayTurn : {F T : Type 0} → (F → AppView) → (T → ℕ → Option (List ℕ)) → (T → ShelfCounts) → Option (PourView F T) → Type 0
PourPartsMayTurn seen shelved counts kept =
    IsSomeAnd kept (λ work. CanTurn work.tally work.desk (shelved work.shelf) (counts work.shelf) (seen work.face))

-- what a last turn gives and does, at the same board
abbrev pub GivesPourParts : {F B T : Type 0} → (F → AppView) → (F → B) → (T → ℕ → Option (List ℕ)) → (T → ShelfCounts) → Option (PourView F T)
    → Poured × F × T → Type 0
GivesPourParts seen beside shelved counts kept came = IfSome kept (λ work. (beside came.1 ≡ beside work.face)
    × ((first : ℕ → Option (List ℕ)) (losses : ShelfCounts)
    → PourStands first losses work.tally work.desk (shelved work.shelf) (counts work.shelf) (seen work.face)
    → IsLastPourTurn first losses (shelved came.2) (counts came.2) (seen work.face).app (seen came.1) came.0))

-- It took a turn that wasn't the last, at the same board, and stands since whatever time it stood since.
pub record PouredOn {F B T : Type 0} (seen : F → AppView) (beside : F → B) (shelved : T → ℕ → Option (List ℕ)) (counts : T → ShelfCounts)
    (is_so : F → AppLook → Type 0) (was now : PourView F T) : Type 0 where
  pub stands : (first : ℕ → Option (List ℕ)) (losses : ShelfCounts)
      → PourStands first losses was.tally was.desk (shelved was.shelf) (counts was.shelf) (seen was.face)
      → PourStands first losses now.tally now.desk (shelved now.shelf) (counts now.shelf) (seen now.face)
  pub does : PourPollDoes (is_so now.face) (pour_stage_at seen was) (pour_stage_at seen now) Pending
  pub scrubs : was.tally.stopped ≢ stop.No → ScrubsIfQuiet (seen was.face) (seen now.face)
  pub same : (seen now.face).app ≡ (seen was.face).app
  pub board : beside now.face ≡ beside was.face

-- What a poll does: the last turn, after which the face has left, or another one.
abbrev pub PourPartsDo : {F B T : Type 0} → (F → AppView) → (F → B) → (T → ℕ → Option (List ℕ)) → (T → ShelfCounts) → (F → AppLook → Type 0)
    → PourView F T → Option (PourView F T) → Poll (Poured × F × T) → Type 0
PourPartsDo seen beside shelved counts is_so was kept (Ready came) = (beside came.1 ≡ beside was.face)
    × PourTurnDoes (pour_stage_at seen was) (pour_stage None was.desk (seen came.1)) (Ended came.0)
PourPartsDo seen beside shelved counts is_so was kept Pending = IsSomeAnd kept (λ now. PouredOn seen beside shelved counts is_so was now)
