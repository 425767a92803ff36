-- Loans are given up.
use Rattle.std.specs.Prelude.{◌≡◌, ℕ, ◌+◌, List, [], ◌++◌}
use Rattle.zr_kinds.specs.declared.place.Place.{Place}
use Rattle.board_face.specs.declared.views.app.{LentPiece.{LentPiece}, AppView.{AppView}}
use Rattle.flow_queues.specs.Core.{total, IsIn}
use Rattle.zc_poll.specs.{Standing.{Desk, StreamStands}, Stops.{IsStill}, Streaming.{Streaming}}
use Rattle.zc_forward.specs.{declared.sent.Sent.{Sent}, Sending.{of_sent}}

-- loans were given up, and nothing else changed
pub record GaveUp (old new : AppView) : Type 0 where
  pub view : new ≡ record old { loans = new.loans; returned = new.returned }
  pub gone : List LentPiece
  pub returned : new.returned ≡ old.returned ++ gone
  pub sums : (f : LentPiece → ℕ) → total f new.loans + total f gone ≡ total f old.loans
  pub each : (l : LentPiece) → IsIn l old.loans → IsIn l (new.loans ++ gone)

-- all were, and all pieces
abbrev pub GaveAllUp : AppView → AppView → Type 0
GaveAllUp old new = (after : AppView) × GaveUp old after × (after.loans ≡ []) × (new ≡ record after { helds = [] })

-- The stream stands, and the loans that are out are those of the tags, each once.
pub record OnlySent (st : Desk) (v : AppView) (out : List Sent) : Type 0 where
  pub stands : StreamStands st v
  pub loans : (f : Place → ℕ) → total (λ (l : LentPiece). f l.place) v.loans ≡ of_sent f out

-- The stream is stopped, at the same board. All its loans and pieces were given up.
pub record Halts {F B : Type 0} (seen : F → AppView) (beside : F → B) (was now : Streaming F) : Type 0 where
  pub still : IsStill now.desk (seen now.face)
  pub gave_up : GaveAllUp (seen was.face) (seen now.face)
  pub board : beside now.face ≡ beside was.face
