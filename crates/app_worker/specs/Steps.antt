-- What each step of the core does.
use Rattle.std.specs.Prelude.{List, zero, suc, ◌≡◌, ◌≢◌, ℕ, ◌+◌, ◌<◌, ◌≤◌, Bool, true, false, ◌||◌, ◌==◌, [], ◌∷◌, ◌++◌, Option, Some, None, length, slice_index_or}
use Rattle.std.specs.{Prelude.{Result, OnOk, OnErr}, Int.{cast_signed}, Io.KnownBytes.{Keeps}}
use Rattle.zr_io.specs.Moved.{Gained, HasCause, ShelfCounts, raised_by}
use Rattle.board_face.specs.{declared.views.app.{LentPiece.{LentPiece}, AppView.{AppView}, WrittenEntry.{WrittenEntry}}, AppCalls.{IsHere, IsLive, AppOnlySaw}}
use Rattle.board_face.specs.{AppEvents.{gave, entry_of, reserve_of}, Looks.{AppRose, AppLooksStay}, declared.views.app.AppLook.{AppLook, TheVariants.{RawOnItsWay, RefillInUse, NoSpare}}}
use Rattle.flow_queues.specs.declared.queues.{Lending.{Lending}, FlowQueue.{FlowQueue}}
use Rattle.flow_queues.specs.{Core.{total, LieApart, IsIn, OnlyReads, IsReadOf, lent_piece}, Totals.{capped}}
use Rattle.zr_kinds.specs.declared.ring.{Completion.{Completion}, Rqe.{Rqe}}
use mir.Syntax.{w32}
use Rattle.area_layout.specs.Layout.{Shape, off_of, judged}
use Rattle.circular_buffer.specs.Buffer.{Buffer, buffer}
use Rattle.completion_ring.specs.Ring.{ring}
use Rattle.app_worker.specs.declared.{stack.{Stray.{Stray}, Delivery.{Delivery}}, reading.Pushed.{Pushed, TheVariants.{Nothing, All, Part, InUse}}}
use Rattle.app_worker.specs.{declared.stack.Delivery.TheVariants.{Unsettled, ReserveHeld}, State.{State}, ReadWhole.{IsReadUpTo}}

-- ---- lending

-- what is posted for a loan
abbrev pub completion_of_loan : Shape → ℕ → Lending → Completion
completion_of_loan layout flow l = record { user_data = flow; res = cast_signed w32 l.loan.len; flags = 2; off = off_of layout l.loan }

-- the loan of a flow with this number was posted and counted; one in the reserve is to be read with all that is unread
abbrev pub with_posted : State → AppView → ℕ → Lending → State
with_posted st v number loan = record st {
  posted = ring (st.posted.entries ++ (completion_of_loan v.setting.layout number loan, loan) ∷ []) st.posted.places;
  loans = capped (st.loans + 1);
  flush = st.flush || (loan.loan.buffer == reserve_of v);
}

-- a loan of the active flow was posted
pub record Posts (v : AppView) (loan : Lending) (was now : State) : Type 0 where
  pub own : FlowQueue
  pub active : own ≡ slice_index_or was.flows was.active own
  pub is : now ≡ with_posted was v own.number loan

-- so it is of the look that was the cause where nothing was lent
abbrev pub IsSoOfDelivery : (AppLook → Type 0) → Delivery → Type 0
IsSoOfDelivery is_so Unsettled = is_so RawOnItsWay
IsSoOfDelivery is_so ReserveHeld = is_so NoSpare
IsSoOfDelivery is_so other = Unit {0}

-- ---- reading

-- a loan may be read: it is of a note that was taken, and is out, and no other has a byte of it
pub record MayRead (v : AppView) (lending : Lending) : Type 0 where
  pub here : IsHere v
  pub apart : LieApart v
  pub out : IsIn (lent_piece v.taken lending) v.loans
  pub note : lending.note < length v.taken

-- what is read: the first `most` bytes of a loan, for a flow
pub record Front : Type 0 where
  pub lending : Lending
  pub most : ℕ
  pub flow : ℕ

abbrev pub as_front : Lending → ℕ → ℕ → Front
as_front lending most flow = record { lending = lending; most = most; flow = flow }

-- Nothing happened but that bytes were read, and at `Ok` each of these was.
pub record ReadsThrough {T E : Type 0} (old new : AppView) (front : Front) (result : Result T E) : Type 0 where
  pub only : OnlyReads old new
  pub through : OnOk result (IsReadUpTo new.reads (lent_piece old.taken front.lending) front.most)

-- A count of bytes went on by `most` at `Ok`, and by fewer at `Err`.
pub record CountsFront {T E : Type 0} (most was now : ℕ) (result : Result T E) : Type 0 where
  pub within : (was ≤ now) × (now ≤ was + most)
  pub whole : OnOk result (now ≡ was + most)
  pub short : OnErr result (now < was + most)

-- The flow gained the first of these bytes as they were read: at least as many as are counted, and at `Ok` all. No other flow did.
pub record AppendsFront {T E : Type 0} (old new : AppView) (kept kept_now : ℕ → Option (List ℕ)) (front : Front) (count : ℕ) (result : Result T E)
    : Type 0 where
  pub gained : Gained (kept front.flow) (kept_now front.flow) (IsReadOf old.taken new.reads front.lending count front.most)
  pub exact : OnOk result (Gained (kept front.flow) (kept_now front.flow) (IsReadOf old.taken new.reads front.lending front.most front.most))
  pub others : (other : ℕ) → other ≢ front.flow → Keeps (kept other) (kept_now other)

-- How a shelf's counts changed as so many bytes were appended: it failed exactly at `Err`.
pub record CountsShelf {T E : Type 0} (count : ℕ) (old new : ShelfCounts) (result : Result T E) : Type 0 where
  pub cause : HasCause old.faults new.faults result
  pub appended : new.appended ≡ raised_by old.appended count

-- ---- giving back

-- A loan that was due was given back: its entry was written.
pub record Gave (old new : AppView) (lending : Lending) : Type 0 where
  pub view : new ≡ gave old lending.loan
  pub apart : LieApart new
  pub loans : (f : LentPiece → ℕ) → total f new.loans + f (lent_piece old.taken lending) ≡ total f old.loans
  pub returned : new.returned ≡ old.returned ++ lent_piece old.taken lending ∷ []

-- the entries that are to follow a loan: so many times its own
pub record IsToFollow (layout : Shape) (lending : Lending) (most : ℕ) (stray : Stray) : Type 0 where
  pub is : stray ≡ record { entry = entry_of layout lending.loan; buffer = lending.loan.buffer; left = most }
  pub names : judged layout stray.entry ≡ Some stray.buffer

-- what was due is given back, or the next refill slot was seen in use
abbrev pub Given : ℕ → AppView → AppView → Option Lending → Option Lending → Stray → Stray → Bool → Type 0
Given most old new None due was now given = (new ≡ old) × (due ≡ None) × (now ≡ was) × (given ≡ true)
Given most old new (Some lending) due was now true = Gave old new lending × (due ≡ None) × IsToFollow old.setting.layout lending most now
Given most old new (Some lending) due was now false = AppOnlySaw RefillInUse old new × (due ≡ Some lending) × (now ≡ was)

-- ---- what follows a loan that was given back

-- it may write the entries that are left, of which each names the buffer
pub record MayPushStrays (v : AppView) (stray : Stray) : Type 0 where
  pub here : IsHere v
  pub counted : v.scrubbed ≡ false
  pub names : 0 < stray.left → judged v.setting.layout stray.entry ≡ Some stray.buffer

-- so many raw entries
abbrev pub raw_copies : ℕ → Rqe → List WrittenEntry
raw_copies zero entry = []
raw_copies (suc n) entry = record { entry = entry; of_loan = false } ∷ raw_copies n entry

-- Some of the entries that were left were written, and others dropped, since a loan in their buffer is out.
pub record PushedSome (old new : AppView) (was now : Stray) : Type 0 where
  pub view : new ≡ record old { settled = new.settled; quiet = new.quiet; written = new.written; looks = new.looks }
  pub count : ℕ
  pub written : new.written ≡ old.written ++ raw_copies count was.entry
  pub dropped : ℕ
  pub live : 0 < dropped → IsLive old was.buffer
  pub same : now ≡ record was { left = now.left }
  pub all : count + dropped + now.left ≡ was.left
  pub looks : AppLooksStay old new

abbrev pub Pushes : AppView → AppView → Stray → Stray → Pushed → Type 0
Pushes old new was now Nothing = (new ≡ old) × (now ≡ was) × (was.left ≡ 0)
Pushes old new was now All = PushedSome old new was now × (now.left ≡ 0) × (0 < was.left)
Pushes old new was now Part = PushedSome old new was now × (now.left < was.left) × AppRose RefillInUse old new
Pushes old new was now InUse = AppOnlySaw RefillInUse old new × (now ≡ was) × (0 < was.left)

-- ---- keeping to the end

-- the loan that was due is kept
pub record KeptDue (reserve most : ℕ) (was then : Option Lending) (leaked leaked_now : Buffer Lending) : Type 0 where
  pub lending : Lending
  pub due : was ≡ Some lending
  pub none : then ≡ None
  pub few : length leaked.items < most
  pub aside : lending.loan.buffer ≢ reserve
  pub more : leaked_now ≡ buffer (leaked.items ++ lending ∷ []) leaked.capacity

-- it isn't: there are enough, or it lies in the reserve
pub record NotKept (reserve most : ℕ) (was then : Option Lending) (leaked leaked_now : Buffer Lending) : Type 0 where
  pub due : then ≡ was
  pub same : leaked_now ≡ leaked
  pub enough : (l : Lending) → was ≡ Some l → l.loan.buffer ≢ reserve → most ≤ length leaked.items
