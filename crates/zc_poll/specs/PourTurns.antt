-- What a turn of pouring does, and what it ends with.
use Rattle.std.specs.{Prelude.{◌≡◌, ◌≢◌, ◌<◌, ◌⊎◌, ◌↔◌, ℕ, Bool, true, false, List, [], Option, Some, None, MatchBool, MatchOption}, Ordering.{nat_cmp}, Map.{keys_of}}
use Rattle.std.specs.List.Sorted.{IsStrictlySortedBy}
use Rattle.zr_kinds.specs.declared.{place.Place.{Place}, behaviour.Behaviour.{Behaviour}}
use Rattle.zr_kinds.specs.declared.behaviour.Stopped.TheVariants as stop
use Rattle.futures.specs.declared.task.Poll.{Poll, TheVariants.{Ready, Pending}}
pub use Rattle.board_face.specs.Looks.{ScrubsIfQuiet}
use Rattle.board_face.specs.{AppCalls.{AppOnlySaw}, AppEvents.{abandoned, gave}, NotNow.{HasWritten, HasWrittenRingful}, declared.views.app.AppLook.{AppLook}}
use Rattle.board_face.specs.declared.views.app.{AppLook.TheVariants.{RefillInUse, NotQuiet as not_quiet}, AppView.{AppView}}
use Rattle.zr_io.specs.Moved.{ShelfCounts}
use Rattle.flow_queues.specs.{Core.{Each, OnlyReads}, Ends.{AppEnd, HasLeft}, Returned.{HasReturned}, Counting.{TallyState, with_bytes}}
use Rattle.zc_poll.specs.declared.step.Lent.{Lent}
use Rattle.zc_poll.specs.declared.{step.Step.{Step, TheVariants.{Waiting, Memory, Ended as stream_ended}}, to_shelf.{Poured.{Poured}, PollTurn.{PollTurn}}}
use Rattle.zc_poll.specs.declared.to_shelf.{PollTurn.TheVariants.{Did, Idle, Ended}, Rests.{Rests, TheVariants.{Stream, RefillFull, NotQuiet, NoNotice}}}
use Rattle.zc_poll.specs.{Fresh.{has_left}, Standing.{Desk, stopped_with}, Steps.{OnlySteps, Steps, IsItem, IsSoWaiting, ScrubsOrWaits}, Pouring.{PourStands}}

-- what a turn looks at: the loan that is due, the stream's desk, and the view
pub record PourStage : Type 0 where
  pub due : Option Place
  pub desk : Desk
  pub view : AppView

abbrev pub pour_stage : Option Place → Desk → AppView → PourStage
pour_stage due desk view = record { due = due; desk = desk; view = view }

-- Bytes of an item's loan were read. It is to be given back then, or it was given up and the stream stopped.
abbrev pub IsRead : Place → Desk → Desk → AppView → AppView → Option Place → Type 0
IsRead loan was now old new (Some due) = (due ≡ loan) × (now ≡ was) × OnlyReads old new
IsRead loan was now old new None = (now ≡ stopped_with was now.flows)
    × (read : AppView) × OnlyReads old read × (new ≡ record (abandoned read loan) { helds = [] })

-- the loan was given back and none is due, or it is, since a refill slot was seen in use
abbrev pub GoesBack : Place → Option Place → AppView → AppView → Type 0
GoesBack loan None old new = new ≡ gave old loan
GoesBack loan (Some due) old new = (due ≡ loan) × AppOnlySaw RefillInUse old new × HasWrittenRingful old

-- The stream gave an item, and bytes of its loan were read. Then it went back; or it was given up and the stream stopped.
pub record HadItem (was now : PourStage) : Type 0 where
  pub desk : Desk
  pub view : AppView
  pub lent : Lent
  pub item : IsItem was.desk desk was.view view lent
  pub only : OnlySteps was.view view
  pub read : AppView
  pub reads : OnlyReads view read
  pub went : ((now.desk ≡ desk) × GoesBack lent.loan now.due read now.view)
      ⊎ ((now.desk ≡ stopped_with desk now.desk.flows) × (now.due ≡ None) × (now.view ≡ record (abandoned read lent.loan) { helds = [] }))

-- Where it was stopped its user counts are scrubbed, or a refill slot was seen in use. Else nothing is done.
abbrev pub PourScrubsFirst : PourStage → PourStage → Type 0
PourScrubsFirst was now = (now.due ≡ was.due) × MatchBool was.desk.stopped
    ((done : Bool) × ScrubsOrWaits was.desk now.desk was.view now.view done)
    ((now.desk ≡ was.desk) × (now.view ≡ was.view))

-- one step of the stream gave this, and what is due stays
abbrev pub OnlyPourStep : PourStage → PourStage → Step → Type 0
OnlyPourStep was now step = (now.due ≡ was.due) × OnlySteps was.view now.view × Steps was.desk now.desk was.view now.view step

-- The stream gave an item, had no memory, or was told for the first time that no note comes any more; or it waits.
abbrev pub PourStepDoes : PourStage → PourStage → PollTurn → Type 0
PourStepDoes was now Did = (was.desk.ended ≡ false) × (HadItem was now ⊎ (OnlyPourStep was now Memory ⊎ OnlyPourStep was now stream_ended))
PourStepDoes was now (Idle (Stream why)) = OnlyPourStep was now (Waiting why)
PourStepDoes was now other = ⊥

-- so it took a step, once it had scrubbed where it should
pub record TookPourStep (was now : PourStage) (ran : PollTurn) : Type 0 where
  pub stage : PourStage
  pub first : PourScrubsFirst was stage
  pub does : PourStepDoes stage now ran

-- the loan that was due was given back, or a step was taken
abbrev pub PourDoes : PourStage → PourStage → Type 0
PourDoes was now = MatchOption was.due (TookPourStep was now Did) (λ loan. now ≡ pour_stage None was.desk (gave was.view loan))

-- The stream waits, or a refill slot was seen in use: that of the loan that is due, for which a ringful of entries was written, or
-- any one as it was to leave, for which one was written.
abbrev pub PourIdles : Rests → PourStage → PourStage → Type 0
PourIdles (Stream why) was now = (was.due ≡ None) × TookPourStep was now (Idle (Stream why))
PourIdles RefillFull was now = (was.due ≢ None) × (now.due ≡ was.due) × (now.desk ≡ was.desk) × AppOnlySaw RefillInUse was.view now.view
    × HasWrittenRingful was.view
PourIdles NotQuiet was now = (was.due ≡ None) × (now.due ≡ None) × (now.desk ≡ was.desk) × (was.desk.ended ≡ true)
    × AppOnlySaw not_quiet was.view now.view × HasWritten was.view
PourIdles NoNotice was now = ⊥

-- so it is of the look on which it rests
abbrev pub IsSoOf : (AppLook → Type 0) → Rests → Type 0
IsSoOf is_so (Stream why) = IsSoWaiting is_so why
IsSoOf is_so RefillFull = is_so RefillInUse
IsSoOf is_so NotQuiet = is_so not_quiet
IsSoOf is_so NoNotice = Unit {0}

abbrev pub RestsAreTold : (AppLook → Type 0) → PollTurn → Type 0
RestsAreTold is_so (Idle why) = IsSoOf is_so why
RestsAreTold is_so Did = Unit {0}
RestsAreTold is_so (Ended poured) = Unit {0}

abbrev pub PourTurnDoes : PourStage → PourStage → PollTurn → Type 0
PourTurnDoes was now Did = PourDoes was now
PourTurnDoes was now (Idle why) = PourIdles why was now
PourTurnDoes was now (Ended poured) = (was.due ≡ None) × (was.desk.ended ≡ true) × (now.view ≡ has_left was.view)
    × ((poured.stopped ≡ stop.No) ↔ (was.desk.stopped ≡ false)) × IsStrictlySortedBy nat_cmp (keys_of poured.flows.items)
    × Each (λ f. 0 < f.1) poured.flows.items

-- what was written, as what an application leaves
abbrev pub pour_end : Poured → AppEnd
pour_end p = record { written = p.written; loans = p.loans; copied = p.copied; stopped = p.stopped; flows = p.flows.items }

-- it is what is counted, of the flows of which bytes were written
pub record TellsCounts (w : TallyState) (p : Poured) : Type 0 where
  pub written : p.written ≡ w.written
  pub loans : p.loans ≡ w.loans
  pub copied : p.copied ≡ w.copied
  pub stopped : p.stopped ≡ w.stopped
  pub flows : p.flows.items ≡ with_bytes w.counts
  -- each flow has some, and they ascend
  pub some : Each (λ f. 0 < f.1) p.flows.items
  pub ascending : IsStrictlySortedBy nat_cmp (keys_of p.flows.items)

-- It goes on, or has left with what any application owes that isn't to quit, and keeps no loan and writes no raw entry.
abbrev pub PourGives : (ℕ → Option (List ℕ)) → ShelfCounts → TallyState → Desk → (ℕ → Option (List ℕ)) → ShelfCounts → AppView → PollTurn
    → Type 0
PourGives first losses w st kept losses_now v (Ended poured) =
    (how : Behaviour) → (how.quit ≡ None → HasLeft how first kept losses losses_now v (pour_end poured))
    × (how.leak ≡ 0 → how.stray ≡ 0 → HasReturned how poured.stopped poured.written v)
PourGives first losses w st kept losses_now v Did = PourStands first losses w st kept losses_now v
PourGives first losses w st kept losses_now v (Idle why) = PourStands first losses w st kept losses_now v

-- what a contract sees of it
pub record PourView (F T : Type 0) : Type 0 where
  pub face : F
  pub desk : Desk
  pub shelf : T
  pub tally : TallyState

-- and what one looks at that is seen so
abbrev pub pour_stage_at : {F T : Type 0} → (F → AppView) → PourView F T → PourStage
pour_stage_at seen work = pour_stage work.tally.due work.desk (seen work.face)

-- what a poll gives and does is what one turn gives and does
abbrev pub PollPours : (ℕ → Option (List ℕ)) → ShelfCounts → TallyState → Desk → (ℕ → Option (List ℕ)) → ShelfCounts → AppView → Poll Poured
    → Type 0
PollPours first losses w st kept losses_now v (Ready poured) = PourGives first losses w st kept losses_now v (Ended poured)
PollPours first losses w st kept losses_now v Pending = PourStands first losses w st kept losses_now v

abbrev pub PourPollDoes : (AppLook → Type 0) → PourStage → PourStage → Poll Poured → Type 0
PourPollDoes is_so was now (Ready poured) = PourTurnDoes was now (Ended poured)
PourPollDoes is_so was now Pending = PourTurnDoes was now Did ⊎ ((why : Rests) × PourTurnDoes was now (Idle why) × RestsAreTold is_so (Idle why))
