-- When forwarding may take a step, and hand an item to its carrier.
use Rattle.std.specs.Prelude.{◌≡◌, ◌<◌, ℕ, ◌+◌, false, length, None}
use Rattle.zr_kinds.specs.declared.place.Place.{Place}
use Rattle.board_face.specs.declared.views.app.{LentPiece.{LentPiece}, AppView.{AppView}}
use Rattle.flow_queues.specs.{Core.{total}, Counting.{HasRoomForFlows}}
use Rattle.zc_poll.specs.Standing.{Desk, HoldsLoan}
use Rattle.zc_forward.specs.{Tags.{Tags}, Sending.{OutboxState, most_out, of_sent, tags_of}}

-- the stream hasn't ended, no loan is due, and more may go out
pub record CanStep (w : OutboxState) (st : Desk) : Type 0 where
  pub more : st.ended ≡ false
  pub due : w.tally.due ≡ None
  pub few : length w.out < most_out

-- The loan of an item is out, and each other loan by a tag of its own. No loan is due, each was carried, and more may go out.
pub record CanHand (w : OutboxState) (st : Desk) (tags : Tags) (v : AppView) (loan : Place) : Type 0 where
  pub holds : HoldsLoan st v loan
  pub loans : (f : Place → ℕ) → total (λ (l : LentPiece). f l.place) v.loans ≡ f loan + of_sent f w.out
  pub sent : tags ≡ tags_of w.out
  pub due : w.tally.due ≡ None
  pub carried : w.uncarried ≡ None
  pub few : length w.out < most_out
  pub counted : HasRoomForFlows w.tally
