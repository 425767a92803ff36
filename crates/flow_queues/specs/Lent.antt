-- What is next in a stream is lent.
use Rattle.std.specs.Prelude.{◌≡◌, ◌≢◌, ℕ, ◌+◌, ◌<◌, ◌≤◌, Bool, true, false, Some, [], length}
use Rattle.tcp_reorder.specs.{declared.places.Span.{Span}, Queue.{Kept, Queue, next_of, front_of, IsSound}, Gaps.{LosesFirst}, Values.{AreSized}}
use Rattle.board_face.specs.{AppCalls.{AppOnlySaw}, AppEvents.{app_saw, came_to_rest}, Looks.{AppRose, AppLooksStay}}
use Rattle.board_face.specs.declared.views.app.{AppLook.{AppLook, TheVariants.{RawOnItsWay, NoSpare}}, HeldPiece.{HeldPiece}, LentPiece.{LentPiece}, AppView.{AppView}}
use Rattle.flow_queues.specs.declared.{queues.{Waiting.{Waiting, TheVariants.{InArea, Copied}}, Lending.{Lending}, FlowQueue.{FlowQueue}}, lending.Next.{Next}}
use Rattle.flow_queues.specs.declared.lending.Next.TheVariants.{Lent, LentCopy, NoneInOrder, Unsettled, ReserveHeld}
use Rattle.flow_queues.specs.Core.{total, Each, HoldsApart, LieApart, IsOfNote, lent_piece, is_copy, over_waiting, short_len, short_bytes, unsplit_len, held_len, marks_of_waiting, marks_of_loan}

-- bytes that came with their note
abbrev pub is_short : Waiting → Bool
is_short (InArea p) = false
is_short (Copied s) = true

-- it has neither left nor scrubbed, what it holds lies apart, and it owns no buffer that it hasn't lent
pub record MayLendNext (v : AppView) : Type 0 where
  pub holds : HoldsApart v
  pub counted : v.scrubbed ≡ false
  pub owns : v.owns ≡ []

-- What the queue keeps is of notes that were taken, as long as its place there, and each of its bytes that is in no piece may still
-- take a spare.
pub record IsBacked (v : AppView) (queue : Queue Waiting) : Type 0 where
  pub notes : Each (λ k. IsOfNote v.taken k.piece) queue.kept
  pub sized : AreSized marks_of_waiting queue.kept
  pub spare : v.spares + short_bytes queue ≤ total unsplit_len v.taken

-- something is next in the stream, and it is of this kind
pub record IsNext (short : Bool) (queue : Queue Waiting) : Type 0 where
  pub sound : IsSound queue
  pub some : queue.popped ≢ next_of queue
  pub first : Kept Waiting
  pub is : front_of queue ≡ Some first
  pub kind : is_short first.piece ≡ short

-- how many spares the piece takes
abbrev pub spares_of : Waiting → ℕ
spares_of (InArea p) = 0
spares_of (Copied s) = 1

-- the reserve was held, and no other buffer was free
pub record SawNoSpare (old new : AppView) : Type 0 where
  pub event : new ≡ app_saw (came_to_rest old) NoSpare
  pub rose : AppRose NoSpare old new

-- The piece that is next in the stream was lent.
pub record LentNext (old new : AppView) (was now : FlowQueue) (lending : Lending) : Type 0 where
  pub piece : Waiting
  pub span : Span
  pub loses : LosesFirst was.queue now.queue piece span
  pub begins : span.position ≡ was.queue.popped
  pub next : was.queue.popped ≢ next_of was.queue
  pub flow : now ≡ record was { queue = now.queue }
  -- the loan is of the piece's bytes
  pub marks : marks_of_loan lending ≡ marks_of_waiting piece
  pub len : lending.loan.len ≡ over_waiting held_len piece + short_len piece
  pub of_note : lending.note < length old.taken
  pub view : new ≡ record old { settled = true; helds = new.helds; loans = new.loans; spares = new.spares; picked = new.picked; looks = new.looks }
  pub looks : AppLooksStay old new
  pub apart : LieApart new
  pub helds : (f : HeldPiece → ℕ) → total f new.helds + over_waiting f piece ≡ total f old.helds
  pub loans : (f : LentPiece → ℕ) → total f new.loans ≡ total f old.loans + f (lent_piece old.taken lending)
  -- a piece in the area takes no spare, and a short one takes one
  pub spares : new.spares ≡ old.spares + spares_of piece
  pub copy : is_copy (lent_piece old.taken lending) ≡ spares_of piece

-- what was next was lent, or why not
abbrev pub LendsNext : AppView → AppView → FlowQueue → FlowQueue → Next → Type 0
LendsNext old new was now (Lent lending) = LentNext old new was now lending × (is_copy (lent_piece old.taken lending) ≡ 0)
LendsNext old new was now (LentCopy lending) = LentNext old new was now lending × (is_copy (lent_piece old.taken lending) ≡ 1)
LendsNext old new was now NoneInOrder = (new ≡ old) × (now ≡ was) × (was.queue.popped ≡ next_of was.queue)
LendsNext old new was now Unsettled = AppOnlySaw RawOnItsWay old new × (now ≡ was) × (was.queue.popped ≢ next_of was.queue) × (old.settled ≡ false)
LendsNext old new was now ReserveHeld = SawNoSpare old new × (now ≡ was) × IsNext true was.queue

-- so it is of the look that was the cause where nothing was lent
abbrev pub IsSoOfNext : (AppLook → Type 0) → Next → Type 0
IsSoOfNext is_so Unsettled = is_so RawOnItsWay
IsSoOfNext is_so ReserveHeld = is_so NoSpare
IsSoOfNext is_so other = Unit {0}
