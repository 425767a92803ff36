-- What an application leaves, as plain data: how that stands to what its face has seen, and to what its shelf had and has. Nothing here
-- looks at what it kept, so it is the same for each kind of application.
use Rattle.std.specs.Prelude.{◌≡◌, ◌≢◌, ℕ, ◌+◌, ◌*◌, ◌<◌, ◌≤◌, ◌==◌, true, if◌then◌else◌, List, [], ◌∷◌, length, take, drop, Option}
use Rattle.zr_kinds.specs.declared.behaviour.{Behaviour.{Behaviour}, Stopped.{Stopped}}
use Rattle.zr_kinds.specs.declared.behaviour.Stopped.TheVariants as stop
use Rattle.zr_io.specs.Moved.{Gained, Rose, ShelfCounts, raised_by}
use Rattle.board_face.specs.declared.views.app.AppView.{AppView}
use Rattle.flow_queues.specs.{declared.queues.FlowQueue.{FlowQueue}, Marks.{FramesStandTogether, marks_of}, Core.{total, Each, own_notes, most_at_once}}
use Rattle.flow_queues.specs.{Shelves.{AreOfOneLoan}, Totals.{Quits, capped, lent_len, loan_entries, raw_entries, taken_len}, Streams.{HasAll, HasFronts}}

pub record AppEnd : Type 0 where
  pub written : ℕ
  -- how many loans it had, and how many of them were copies
  pub loans : ℕ
  pub copied : ℕ
  pub stopped : Stopped
  -- numbers of flows, each with how many bytes of it were written
  pub flows : List (ℕ × ℕ)

-- how many bytes of the flow with this number were written
abbrev pub bytes_written_of : ℕ → List (ℕ × ℕ) → ℕ
bytes_written_of number [] = 0
bytes_written_of number (f ∷ fs) = if f.0 == number then f.1 else bytes_written_of number fs

-- how often a number stands there
abbrev pub times_written : ℕ → List (ℕ × ℕ) → ℕ
times_written number flows = total (λ f. if f.0 == number then 1 else 0) flows

-- All of what the shelf gained for a flow is counted but where it failed: then there may be some bytes more.
pub record IsCounted (stopped : Stopped) (count : ℕ) (bytes : List ℕ) : Type 0 where
  pub counted : stopped ≢ stop.Write → count ≡ length bytes
  pub at_least : count ≤ length bytes

-- A flow of an application whose shelf failed at the flow `torn`. All of what another gained is counted. Of that flow there may
-- be up to 4,096 bytes more than are counted, all of one loan, which no entry gave back.
pub record IsTorn (v : AppView) (torn number count : ℕ) (bytes : List ℕ) : Type 0 where
  pub exact : number ≢ torn → count ≡ length bytes
  pub at_once : length bytes ≤ count + most_at_once
  pub more : count < length bytes → AreOfOneLoan v.taken (drop (loan_entries v) v.returned) (drop count (take (length bytes) (marks_of number v.taken)))

-- its shelf failed at one of its flows, and at no other
pub record IsTornAtOne (first kept : ℕ → Option (List ℕ)) (v : AppView) (flows : List (ℕ × ℕ)) : Type 0 where
  pub torn : ℕ
  pub each : (number : ℕ) → Gained (first number) (kept number) (IsTorn v torn number (bytes_written_of number flows))

-- An application that behaves so has left with this. Its shelf had `first` before and has `kept` now, and its counts were `losses`
-- and are `losses_now`.
pub record HasLeft (how : Behaviour) (first kept : ℕ → Option (List ℕ)) (losses losses_now : ShelfCounts) (v : AppView) (end : AppEnd) : Type 0 where
  -- it has left, and no loan is out
  pub left : v.left ≡ true
  pub none_out : v.loans ≡ []
  -- what is counted: its loans, those that were copies, and the bytes of its flows
  pub loans : end.loans ≡ capped (length v.returned)
  pub copied : end.copied ≡ capped v.spares
  pub written : end.written ≡ capped (total (λ f. f.1) end.flows)
  pub copies : end.copied ≤ end.loans
  pub counts : end.stopped ≡ stop.No → end.loans ≤ end.written
  -- all that it was lent was written where nothing stopped it, and never more
  pub all_lent : end.stopped ≡ stop.No → end.written ≡ capped (total lent_len v.returned)
  pub within_lent : end.written ≤ total lent_len v.returned
  -- each loan was of a byte that was taken, and each flow has a note, and stands there once
  pub bound : length v.returned ≤ total taken_len v.taken
  pub noted : Each (λ f. own_notes f.0 v.taken ≢ []) end.flows
  pub once : (number : ℕ) → times_written number end.flows ≤ 1
  -- what its shelf gained: a front of each flow's bytes, and all of them where nothing stopped it
  pub fronts : FramesStandTogether v.taken → HasFronts first kept v
  pub whole : end.stopped ≡ stop.No → FramesStandTogether v.taken → HasAll first kept v
  pub counted : (number : ℕ) → Gained (first number) (kept number) (IsCounted end.stopped (bytes_written_of number end.flows))
  pub torn : end.stopped ≡ stop.Write → FramesStandTogether v.taken → IsTornAtOne first kept v end.flows
  -- what was written is what the appends took that went well, and nothing else
  pub appended : losses_now.appended ≡ raised_by losses.appended end.written
  -- what stopped it
  pub quits : Quits how.quit end.written end.stopped
  pub later : losses.faults ≤ losses_now.faults
  pub cause : end.stopped ≡ stop.Write → Rose losses.faults losses_now.faults
  pub still : end.stopped ≢ stop.Write → losses_now.faults ≡ losses.faults
  -- at most so many raw entries as may follow the loans that entries gave back
  pub strays : raw_entries v ≤ how.stray * loan_entries v
  pub entries : loan_entries v ≤ length v.returned

-- of a queue: its number, and how many of its bytes are done with
abbrev pub flow_end_of : FlowQueue → ℕ × ℕ
flow_end_of f = (f.number, f.bytes)
