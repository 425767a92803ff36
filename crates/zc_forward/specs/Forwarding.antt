-- What forwarding keeps between two turns, and how that stands to what the face has seen, what the carrier got, and the tags that
-- are out at it.
use Rattle.std.specs.{Prelude.{◌≡◌, ◌≢◌, ℕ, ◌≤◌, ◌⊎◌, true, false, List, [], length, Option, None, nat_eq}, List.{IsDistinct}, Map.{keys_of}}
use Rattle.zr_kinds.specs.declared.behaviour.Stopped.TheVariants as stop
use Rattle.zr_io.specs.Moved.{Rose, ShelfCounts, raised_by}
use Rattle.board_face.specs.declared.views.app.AppView.{AppView}
use Rattle.flow_queues.specs.Totals.{loan_entries}
use Rattle.zc_poll.specs.{Standing.{Desk, StreamStands}, Items.{GivenItem}, Pouring.{HasPoured}}
use Rattle.zc_forward.specs.{Tags.{Tags}, Sending.{AreLoans, OutboxState, most_out, of_one, tags_of, many_out}}

-- Between two turns. The carrier had got `first` and has `got` now; its counts were `losses` and are `losses_now`.
pub record ForwardStands (first : ℕ → Option (List ℕ)) (losses : ShelfCounts) (w : OutboxState) (st : Desk) (tags : Tags) (got : ℕ → Option (List ℕ))
    (losses_now : ShelfCounts) (v : AppView) : Type 0 where
  pub items : List GivenItem
  -- the item at which it was stopped: its flow, and how many of its bytes aren't counted
  pub torn : ℕ
  pub missing : ℕ
  pub stands : StreamStands st v
  pub poured : HasPoured (w.tally.stopped ≡ stop.Write) first w.tally st got v items torn missing
  -- each tag that is out is that of one loan, which is out, and no other loan is but what is due or wasn't carried
  pub sent : tags ≡ tags_of w.out
  pub once : IsDistinct nat_eq (keys_of tags)
  -- no more loans are out
  pub few : many_out w ≤ most_out
  pub loans : AreLoans w v.loans
  -- while loans are out, each that went was given back by an entry, and all bytes are counted but those of the loan that wasn't carried
  pub giving : (v.loans ≡ []) ⊎ ((loan_entries v ≡ length v.returned) × (missing ≤ of_one (λ p. p.len) w.uncarried))
  -- while nothing stopped it, all bytes are counted, each loan is given back by an entry, and each was carried
  pub whole : w.tally.stopped ≡ stop.No → missing ≡ 0
  pub given_back : w.tally.stopped ≡ stop.No → loan_entries v ≡ length v.returned
  pub going : w.tally.stopped ≡ stop.No → st.stopped ≡ false
  pub carried : w.tally.stopped ≡ stop.No → w.uncarried ≡ None
  pub over : w.tally.stopped ≢ stop.No → st.stopped ≡ true
  -- no loan is out once the carrier failed
  pub failed : w.tally.stopped ≡ stop.Write → v.loans ≡ []
  pub pressed : st.ended ≡ true → w.pressed ≡ true
  pub no_quit : w.tally.stopped ≢ stop.Quit
  pub later : losses.faults ≤ losses_now.faults
  pub cause : w.tally.stopped ≡ stop.Write → Rose losses.faults losses_now.faults
  pub still : w.tally.stopped ≢ stop.Write → losses_now.faults ≡ losses.faults
  -- what was written is what was carried by calls that went well
  pub appended : losses_now.appended ≡ raised_by losses.appended w.tally.written

-- It stands so between two turns, whatever its carrier got.
abbrev pub StandsSo : OutboxState → Desk → AppView → Type 0
StandsSo w st v = (first got : ℕ → Option (List ℕ)) × (losses now : ShelfCounts) × (tags : Tags) × ForwardStands first losses w st tags got now v
