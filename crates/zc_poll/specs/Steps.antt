-- What a step does.
use Rattle.std.specs.Prelude.{◌≡◌, ℕ, ◌+◌, ◌-◌, ◌^◌, ◌<◌, min, true, false, not, if◌then◌else◌, List, [], ◌∷◌, ◌++◌, length, Option, Some, None, slice_get, Result, Ok, Err, Bool}
use Rattle.std.specs.declared.alloc.AllocError.{AllocError}
use Rattle.zr_kinds.specs.declared.place.Place.{Place}
use Rattle.futures.specs.declared.task.Poll.{Poll, TheVariants.{Ready, Pending}}
use Rattle.board_face.specs.{AppCalls.{AppOnlySaw, HasLoan, ShowsCopy, ToldEnd}, AppEvents.{has_read, loan_origin}, Looks.{AppRose, AppLooksStay}}
use Rattle.board_face.specs.declared.views.app.{AppLook.TheVariants.{NoNote as no_note, NoSpare as no_spare, NotQuiet as not_quiet}, LentPiece.{LentPiece}}
use Rattle.board_face.specs.declared.views.app.{TakenNote.{TakenNote}, AppView.{AppView}, AppLook.{AppLook}}
use Rattle.flow_queues.specs.{declared.queues.Lending.{Lending}, Marks.{FramesStandTogether, marks_from, marks_of}, Core.{total, AreReadAt, IsIn, lent_piece, marks_of_loan}}
use Rattle.zc_poll.specs.declared.step.{Lent.{Lent}, Waits.{Waits, TheVariants.{NoNote, ReserveHeld, Enough}}, Step.{Step, TheVariants.{Item, Waiting, Memory, Ended}}}
use Rattle.flow_queues.specs.declared.noting.Taken.{Taken, TheVariants.{Did as took_one, NoNote as saw_none, Ended as told_end, Memory as had_no_memory}}
use Rattle.zc_poll.specs.{Standing.{Desk, DeskCommon, StreamStands, NoneInOrder, CanStop}, Items.{GivenItem, HasGiven, marks_given, IsAt}, Fresh.{has_scrubbed}}

-- a count of bytes, with so many more: it stays at 2^64 - 1
abbrev pub counted_on : ℕ → ℕ → ℕ
counted_on bytes len = min (bytes + len) (2 ^ 64 - 1)

-- notes were taken, pieces cut, given up and lent, and spares filled; nothing else changed
pub record OnlySteps (old new : AppView) : Type 0 where
  pub view : new ≡ record old {
    settled = new.settled;
    ended = new.ended;
    spares = new.spares;
    picked = new.picked;
    helds = new.helds;
    loans = new.loans;
    taken = new.taken;
    looks = new.looks;
  }
  pub more : List TakenNote
  pub taken : new.taken ≡ old.taken ++ more
  pub looks : AppLooksStay old new

-- nothing was lent
pub record Unlent (was now : Desk) (old new : AppView) : Type 0 where
  pub loans : new.loans ≡ old.loans
  pub spares : new.spares ≡ old.spares
  pub items : (items : List GivenItem) → HasGiven items was.flows old.taken → HasGiven items now.flows new.taken

-- the item that it is, of a loan
abbrev pub given_as : Lent → Lending → GivenItem
given_as lent lending = record { flow = lent.flow; lending = lending }

-- One loan was lent, which is this item.
pub record IsItem (was now : Desk) (old new : AppView) (lent : Lent) : Type 0 where
  pub lending : Lending
  pub loan : lending.loan ≡ lent.loan
  -- it is out, and no other was lent
  pub held : HasLoan new lent.loan
  pub out : IsIn (lent_piece new.taken lending) new.loans
  pub lends : (f : LentPiece → ℕ) → total f new.loans ≡ total f old.loans + f (lent_piece new.taken lending)
  -- its bytes come from this note, and one spare was taken where they travelled in it
  pub note : TakenNote
  pub is : slice_get new.taken lending.note ≡ Some note
  pub copied : lent.copied ≡ not note.note.split
  pub spares : new.spares ≡ old.spares + (if lent.copied then 1 else 0)
  -- the places of its bytes are numbers of 64 bits
  pub fits : lent.position + lent.loan.len < 2 ^ 64
  -- they stand there among those of the flow
  pub place : FramesStandTogether new.taken → IsAt (marks_of lent.flow new.taken) lent.position (marks_of_loan lending)
  -- as many came before in the flow's items
  pub items : (items : List GivenItem) → HasGiven items was.flows old.taken
      → (lent.position ≡ length (marks_given lent.flow items)) × HasGiven (items ++ given_as lent lending ∷ []) now.flows new.taken
  pub going : (was.stopped ≡ false) × (now.stopped ≡ false)
  pub more : now.ended ≡ false

-- what it waits for
abbrev pub WaitsFor : Waits → Desk → AppView → AppView → Type 0
WaitsFor NoNote now old new = AppRose no_note old new × NoneInOrder now
WaitsFor ReserveHeld now old new = AppRose no_spare old new × (now.stopped ≡ false)
WaitsFor Enough now old new = (length new.taken ≡ length old.taken + old.setting.places) × NoneInOrder now

abbrev pub Steps : Desk → Desk → AppView → AppView → Step → Type 0
Steps was now old new (Item lent) = IsItem was now old new lent
Steps was now old new (Waiting why) = Unlent was now old new × WaitsFor why now old new × (now.stopped ≡ was.stopped) × (now.ended ≡ false)
Steps was now old new Memory = Unlent was now old new × (was.stopped ≡ false) × (now.stopped ≡ true) × (now.ended ≡ false)
Steps was now old new Ended = Unlent was now old new × (now.stopped ≡ was.stopped) × (now.ended ≡ true)

-- so it is of the look that it waits for
abbrev pub IsSoWaiting : (AppLook → Type 0) → Waits → Type 0
IsSoWaiting is_so NoNote = is_so no_note
IsSoWaiting is_so ReserveHeld = is_so no_spare
IsSoWaiting is_so Enough = Unit {0}

-- and of that of a step, where it waits
abbrev pub IsStepTold : (AppLook → Type 0) → Step → Type 0
IsStepTold is_so (Waiting why) = IsSoWaiting is_so why
IsStepTold is_so step = Unit {0}

-- what a poll gives is what one step gives
abbrev pub PollGives : (AppLook → Type 0) → Desk → Desk → AppView → AppView → Poll (Option (Result Lent AllocError)) → Type 0
PollGives is_so was now old new (Ready (Some (Ok lent))) = Steps was now old new (Item lent)
PollGives is_so was now old new (Ready (Some (Err failed))) = Steps was now old new Memory
PollGives is_so was now old new (Ready None) = Steps was now old new Ended
PollGives is_so was now old new Pending = (why : Waits) × Steps was now old new (Waiting why) × IsSoWaiting is_so why

-- ---- a loan

-- Bytes of a loan were read, from one of them on: those at the loan's marks.
pub record ReadsLoan (old new : AppView) (loan : Place) (from : ℕ) (bytes : List ℕ) : Type 0 where
  pub view : new ≡ has_read old loan from bytes
  pub copied : ShowsCopy (loan_origin old loan) from bytes
  pub text : (lending : Lending) → lending.loan ≡ loan → lending.note < length old.taken → IsIn (lent_piece old.taken lending) old.loans
      → AreReadAt new.taken new.reads (marks_from lending.note (lending.at + from) (length bytes)) bytes

-- ---- parts of a step

-- so many notes were taken, and nothing was lent
pub record PassedNotes (count : ℕ) (was now : Desk) (old new : AppView) : Type 0 where
  pub stands : StreamStands now new
  pub only : OnlySteps old new
  pub unlent : Unlent was now old new
  pub longer : length new.taken ≡ length old.taken + count
  pub stopped : now.stopped ≡ was.stopped
  pub more : now.ended ≡ false

pub record Stepped (was now : Desk) (old new : AppView) (step : Step) : Type 0 where
  pub stands : StreamStands now new
  pub only : OnlySteps old new
  pub steps : Steps was now old new step

-- no more than one note was taken for it
abbrev pub TookOneAtMost : Step → Type 0
TookOneAtMost (Waiting Enough) = ⊥
TookOneAtMost step = Unit {0}

-- what was next was lent, or nothing is in order
abbrev pub LendsWhatIsNext : Desk → Desk → AppView → AppView → Option Step → Type 0
LendsWhatIsNext was now old new None = (now ≡ was) × (new ≡ old) × NoneInOrder was
LendsWhatIsNext was now old new (Some step) = Stepped was now old new step × TookOneAtMost step

abbrev pub Takes : Desk → Desk → AppView → AppView → Option Step → Type 0
Takes was now old new None = PassedNotes 1 was now old new
Takes was now old new (Some step) = Stepped was now old new step × TookOneAtMost step

-- A note was taken, and there was no memory for it.
pub record Wants (was now : Desk) (old new : AppView) : Type 0 where
  pub common : DeskCommon now new
  pub can : CanStop now new
  pub only : OnlySteps old new
  pub unlent : Unlent was now old new
  pub going : (was.stopped ≡ false) × (now.stopped ≡ false)
  pub more : now.ended ≡ false

abbrev pub LooksForNote : Desk → Desk → AppView → AppView → Taken → Type 0
LooksForNote was now old new took_one = PassedNotes 1 was now old new
LooksForNote was now old new saw_none = (now ≡ was) × AppOnlySaw no_note old new
LooksForNote was now old new told_end = (now ≡ was) × ToldEnd old new
LooksForNote was now old new had_no_memory = Wants was now old new

-- The user counts are scrubbed: they were before, or each refill slot was seen free. Or one was in use.
abbrev pub ScrubsOrWaits : Desk → Desk → AppView → AppView → Bool → Type 0
ScrubsOrWaits was now old new true = (now ≡ record was { scrubbed = true }) × (new ≡ has_scrubbed old)
ScrubsOrWaits was now old new false = (now ≡ was) × AppOnlySaw not_quiet old new
