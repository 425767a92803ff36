-- What pouring a stream into a shelf keeps, and how that stands to what the face has seen and what the shelf gained.
use Rattle.std.specs.Prelude.{◌≡◌, ◌≢◌, ℕ, ◌+◌, ◌<◌, ◌≤◌, ◌==◌, true, false, if◌then◌else◌, List, [], ◌∷◌, length, take, drop, Option, MatchOption}
use Rattle.zr_kinds.specs.declared.place.Place.{Place}
use Rattle.zr_kinds.specs.declared.behaviour.Stopped.TheVariants as stop
use Rattle.zr_io.specs.Moved.{Gained, Rose, ShelfCounts, raised_by}
use Rattle.board_face.specs.declared.views.app.{LentPiece.{LentPiece}, AppView.{AppView}}
use Rattle.std.specs.Io.KnownBytes.{Keeps}
use Rattle.flow_queues.specs.declared.queues.Lending.{Lending}
use Rattle.flow_queues.specs.{Marks.{Mark}, Core.{total, AreReadAt, IsIn, IsReadOf, lent_piece, most_at_once}, Totals.{capped, lent_len, loan_entries, raw_entries}}
use Rattle.flow_queues.specs.{Shelves.{AreOfOneLoan, kept_loans}, Entries.{GivesAll}, Ends.{bytes_written_of, times_written}, Counting.{TallyState}}
use Rattle.zc_poll.specs.{Standing.{Desk, StreamStands}, Items.{GivenItem, HasGiven, marks_given}}

-- how many bytes an item has
abbrev pub given_len : GivenItem → ℕ
given_len g = g.lending.loan.len

-- Of a flow whose items have these marks so many bytes are counted, and its shelf gained these: those at the first of the marks.
-- They are as many as are counted, but at the flow at which the shelf failed: then up to 4,096 more, of one loan that no entry gave
-- back.
pub record IsPoured (FailedHere : Type 0) (v : AppView) (marks : List Mark) (count : ℕ) (bytes : List ℕ) : Type 0 where
  pub are : AreReadAt v.taken v.reads (take (length bytes) marks) bytes
  pub at_least : count ≤ length bytes
  pub at_once : length bytes ≤ count + most_at_once
  pub exact : (FailedHere → ⊥) → count ≡ length bytes
  pub beyond : count < length bytes → AreOfOneLoan v.taken (kept_loans v) (drop count (take (length bytes) marks))

-- Entries were written of loans alone: of the first that went, one of each and in order. These had so many bytes at most.
pub record GaveFirst (v : AppView) (most : ℕ) : Type 0 where
  pub raw : raw_entries v ≡ 0
  pub entries : loan_entries v ≤ length v.returned
  pub given : GivesAll v (take (loan_entries v) v.returned)
  pub bytes : total lent_len (take (loan_entries v) v.returned) ≤ most

-- These items were given, one loan each, and all of their bytes are counted but for so many of one flow. The shelf had `first`
-- before and has `kept` now; it gained more than is counted only where it failed.
pub record HasPoured (Failed : Type 0) (first : ℕ → Option (List ℕ)) (w : TallyState) (st : Desk) (kept : ℕ → Option (List ℕ)) (v : AppView)
    (items : List GivenItem) (torn missing : ℕ) : Type 0 where
  pub given : HasGiven items st.flows v.taken
  pub many : length v.loans + length v.returned ≡ length items
  pub lent : total lent_len v.loans + total lent_len v.returned ≡ total given_len items
  pub some : length items ≤ total given_len items
  pub copies : v.spares ≤ length items
  -- those that entries gave back are counted whole
  pub back : GaveFirst v (total (λ f. f.1) w.counts)
  pub sum : total (λ f. f.1) w.counts + missing ≡ total given_len items
  pub counts : (n : ℕ) → bytes_written_of n w.counts + (if n == torn then missing else 0) ≡ length (marks_given n items)
  pub once : (n : ℕ) → times_written n w.counts ≤ 1
  pub known : (n : ℕ) → 0 < times_written n w.counts → 0 < length (marks_given n items)
  pub written : w.written ≡ capped (total (λ f. f.1) w.counts)
  pub loans : w.loans ≡ capped (length items)
  pub copied : w.copied ≡ capped v.spares
  pub room : length w.counts ≤ w.room
  pub empty : w.flows ≡ []
  pub shelved : (n : ℕ) → Gained (first n) (kept n) (IsPoured (Failed × (n ≡ torn)) v (marks_given n items) (bytes_written_of n w.counts))

-- The shelf gained the first bytes of a loan for a flow, as they were read, at least as many as are counted. No other flow gained any.
pub record GainsLoan (old new : AppView) (loan : Place) (flow count : ℕ) (kept kept_now : ℕ → Option (List ℕ)) : Type 0 where
  pub gained : (lending : Lending) → lending.loan ≡ loan → lending.note < length old.taken → IsIn (lent_piece old.taken lending) old.loans
      → Gained (kept flow) (kept_now flow) (IsReadOf old.taken new.reads lending count loan.len)
  pub others : (other : ℕ) → other ≢ flow → Keeps (kept other) (kept_now other)

-- How a shelf's counts changed while so many bytes of these were appended by calls that went well. Where these are fewer, one failed.
pub record CountsAppends (len done : ℕ) (old new : ShelfCounts) : Type 0 where
  pub counted : done ≤ len
  pub later : old.faults ≤ new.faults
  pub still : done ≡ len → new.faults ≡ old.faults
  pub cause : done < len → Rose old.faults new.faults
  pub appended : new.appended ≡ raised_by old.appended done

-- no loan is out but the one that is to be given back
abbrev pub OnlyDue : Option Place → List LentPiece → Type 0
OnlyDue due loans = MatchOption due (loans ≡ []) (λ place. (piece : LentPiece) × (loans ≡ piece ∷ []) × (piece.place ≡ place))

-- Between two turns. The shelf's counts were `losses` and are `losses_now`.
pub record PourStands (first : ℕ → Option (List ℕ)) (losses : ShelfCounts) (w : TallyState) (st : Desk) (kept : ℕ → Option (List ℕ)) (losses_now : ShelfCounts)
    (v : AppView) : Type 0 where
  pub items : List GivenItem
  -- the item at which it was stopped: its flow, and how many of its bytes aren't counted
  pub torn : ℕ
  pub missing : ℕ
  pub stands : StreamStands st v
  pub poured : HasPoured (w.stopped ≡ stop.Write) first w st kept v items torn missing
  pub due : OnlyDue w.due v.loans
  -- while nothing stopped it, all bytes are counted, and each loan is given back by an entry
  pub whole : w.stopped ≡ stop.No → missing ≡ 0
  pub given_back : w.stopped ≡ stop.No → loan_entries v ≡ length v.returned
  pub going : w.stopped ≡ stop.No → st.stopped ≡ false
  pub over : w.stopped ≢ stop.No → (st.stopped ≡ true) × (v.loans ≡ [])
  pub no_quit : w.stopped ≢ stop.Quit
  pub later : losses.faults ≤ losses_now.faults
  pub cause : w.stopped ≡ stop.Write → Rose losses.faults losses_now.faults
  pub still : w.stopped ≢ stop.Write → losses_now.faults ≡ losses.faults
  -- what was written is what the appends took that went well
  pub appended : losses_now.appended ≡ raised_by losses.appended w.written

-- it stands so since some moment, and may take a turn
abbrev pub CanTurn : TallyState → Desk → (ℕ → Option (List ℕ)) → ShelfCounts → AppView → Type 0
CanTurn w st kept losses_now v = (first : ℕ → Option (List ℕ)) × (losses : ShelfCounts) × PourStands first losses w st kept losses_now v
