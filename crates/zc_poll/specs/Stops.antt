-- Pouring was stopped by its user, and a stopped stream leaves.
use Rattle.std.specs.Prelude.{◌≡◌, ◌≢◌, ◌⊎◌, ℕ, Bool, true, false, List, [], length, Option, Some, None, IfSome, IsSomeAnd, MatchBool}
use Rattle.zr_kinds.specs.declared.place.Place.{Place}
use Rattle.zr_kinds.specs.declared.behaviour.Stopped.TheVariants as stop
use Rattle.zr_io.specs.Moved.{Gained}
use Rattle.futures.specs.declared.task.Poll.{Poll, TheVariants.{Ready, Pending}}
use Rattle.board_face.specs.{AppCalls.{AppOnlySaw}, AppEvents.{abandoned}, NotNow.{HasWritten}}
use Rattle.board_face.specs.declared.views.app.{AppLook.{AppLook, TheVariants.{NotQuiet as not_quiet}}, AppView.{AppView}}
use Rattle.flow_queues.specs.{Marks.{FramesStandTogether}, Core.{total}, Totals.{capped}, Streams.{HasFronts}, Ends.{AppEnd, IsCounted, bytes_written_of}}
use Rattle.zc_poll.specs.{Standing.{Desk, StreamStands}, Streaming.{Streaming}, Fresh.{has_left}, declared.step.{Waits.{Waits}, Step.TheVariants.{Ended, Waiting}}}
use Rattle.zc_poll.specs.Steps.{IsSoWaiting, OnlySteps, ScrubsOrWaits, Steps}

-- it is stopped, and no loan is out
abbrev pub IsStill : Desk → AppView → Type 0
IsStill st v = StreamStands st v × (st.stopped ≡ true) × (v.loans ≡ [])

-- with this loan given up, if it is one
abbrev pub without_loan : Option Place → AppView → AppView
without_loan None v = v
without_loan (Some loan) v = abandoned v loan

-- What was written until then. No loan and no piece is out; what the shelf gained of a flow is a front of its bytes, and all of that
-- is counted but where it failed.
pub record HasStopped (first kept : ℕ → Option (List ℕ)) (v : AppView) (end : AppEnd) : Type 0 where
  pub none_out : (v.loans ≡ []) × (v.helds ≡ [])
  pub loans : end.loans ≡ capped (length v.returned)
  pub copied : end.copied ≡ capped v.spares
  pub written : end.written ≡ capped (total (λ f. f.1) end.flows)
  pub fronts : FramesStandTogether v.taken → HasFronts first kept v
  pub counted : (number : ℕ) → Gained (first number) (kept number) (IsCounted end.stopped (bytes_written_of number end.flows))
  pub some : end.stopped ≢ stop.No

-- A stopped stream lent nothing, and no loan went in any way.
pub record LentNothing (old new : AppView) : Type 0 where
  pub loans : new.loans ≡ []
  pub returned : new.returned ≡ old.returned
  pub written : new.written ≡ old.written
  pub app : new.app ≡ old.app

-- and it scrubbed and left
abbrev pub HasGone : AppView → AppView → Type 0
HasGone old new = LentNothing old new × (new.scrubbed ≡ true) × (new.left ≡ true)

-- ---- it leaves by polls

-- A step gave no item: notes were taken, or none was there; or it was told that none comes any more.
pub record WentOn (is_so : AppLook → Type 0) (was now : Desk) (old new : AppView) : Type 0 where
  pub only : OnlySteps old new
  pub steps : ((why : Waits) × Steps was now old new (Waiting why) × IsSoWaiting is_so why) ⊎ Steps was now old new Ended

-- The user counts were scrubbed, or a refill slot, of which it had written one, was seen in use; and a step was taken.
pub record WentOnBehindScrub (is_so : AppLook → Type 0) (was now : Desk) (old new : AppView) : Type 0 where
  pub desk : Desk
  pub view : AppView
  pub done : Bool
  pub scrubs : ScrubsOrWaits was desk old view done
  pub held : done ≡ false → HasWritten old
  pub went : WentOn is_so desk now view new

-- Where it had been told that no note comes any more it has left, or saw a refill slot in use, and had written one. Else it scrubbed,
-- or saw one in use, and took a step.
abbrev pub LeavesSoon : (AppLook → Type 0) → Desk → Desk → AppView → AppView → Bool → Type 0
LeavesSoon is_so was now old new true = (was.ended ≡ true) × (new ≡ has_left old)
LeavesSoon is_so was now old new false = MatchBool was.ended
    ((now ≡ was) × AppOnlySaw not_quiet old new × HasWritten old × is_so not_quiet)
    (WentOnBehindScrub is_so was now old new)

-- a stopped stream is kept, and no loan of it is out
abbrev pub KeepsStillStream : {F : Type 0} → (F → AppView) → Option (Streaming F) → Type 0
KeepsStillStream seen kept = IsSomeAnd kept (λ stream. IsStill stream.desk (seen stream.face))

-- The face has scrubbed, and left the same board. No loan went in any way since.
abbrev pub GivesFace : {F B : Type 0} → (F → AppView) → (F → B) → Option (Streaming F) → F → Type 0
GivesFace seen beside kept face = IfSome kept (λ stream. HasGone (seen stream.face) (seen face) × (beside face ≡ beside stream.face))

-- What a poll does: the face is given, which has left, or the stream is kept, which hasn't yet.
abbrev pub LeavingDoes : {F B : Type 0} → (F → AppView) → (F → B) → (F → AppLook → Type 0) → Streaming F → Option (Streaming F) → Poll F → Type 0
LeavingDoes seen beside is_so was kept (Ready face) =
    (was.desk.ended ≡ true) × (seen face ≡ has_left (seen was.face)) × (beside face ≡ beside was.face)
LeavingDoes seen beside is_so was kept Pending = IsSomeAnd kept (λ now. (beside now.face ≡ beside was.face)
    × LeavesSoon (is_so now.face) was.desk now.desk (seen was.face) (seen now.face) false)
