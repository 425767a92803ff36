-- What a turn of forwarding does, and what it ends with.
use Rattle.std.specs.{Prelude.{◌≡◌, ◌≢◌, ◌<◌, ◌⊎◌, ◌↔◌, ℕ, true, false, List, [], ◌∷◌, ◌++◌, Option, Some, None, nat_eq, nat_le, length, remove, slice_get, if◌then◌else◌, Bool, MatchBool, MatchOption}, Ordering.{nat_cmp}}
use Rattle.std.specs.{Map.{keys_of, lookup}, List.Sorted.{IsStrictlySortedBy}}
use Rattle.zr_kinds.specs.declared.{place.Place.{Place}, behaviour.Behaviour.{Behaviour}}
use Rattle.zr_kinds.specs.declared.behaviour.Stopped.TheVariants as stop
use Rattle.zr_io.specs.{Memory.{raised}, Moved.{Rose, ShelfCounts}}
use Rattle.futures.specs.declared.task.Poll.{Poll, TheVariants.{Ready, Pending}}
use Rattle.board_face.specs.{AppCalls.{AppOnlySaw}, AppEvents.{gave}, NotNow.{HasWritten, HasWrittenRingful}, declared.views.app.AppLook.{AppLook}}
use Rattle.board_face.specs.declared.views.app.{AppLook.TheVariants.{RefillInUse, NotQuiet as not_quiet}, AppView.{AppView}}
use Rattle.flow_queues.specs.{Core.{Each, OnlyReads}, Ends.{HasLeft}, Returned.{HasReturned}, Counting.{TallyState}}
use Rattle.zc_poll.specs.declared.{step.Lent.{Lent}, to_shelf.Rests.{Rests, TheVariants.{Stream, RefillFull, NotQuiet, NoNotice}}}
use Rattle.zc_poll.specs.declared.{step.Step.{Step, TheVariants.{Waiting, Memory, Ended as stream_ended}}, to_shelf.{Poured.{Poured}, PollTurn.{PollTurn}}}
use Rattle.zc_poll.specs.{declared.to_shelf.PollTurn.TheVariants.{Did, Idle, Ended}, Fresh.{has_left}, Standing.{Desk, stopped_with}, Steps.{OnlySteps, ScrubsOrWaits, Steps, IsItem}}
use Rattle.zc_poll.specs.{PourTurns.{GoesBack, RestsAreTold, pour_end}, Stops.{without_loan}}
use Rattle.zc_forward.specs.{declared.sent.Sent.{Sent}, GivenUp.{GaveAllUp}, Tags.{Pace, PaceGoes, Tags, TakesTag}, Sending.{OutboxState, is_held, is_urgent, most_out, many_kept}}
use Rattle.zc_forward.specs.{Forwarding.{ForwardStands}, Asking.{AskedBy}}

-- what a turn looks at: what is kept, the stream's desk, the tags that are out, the carrier's pace, and the view
pub record Stage : Type 0 where
  pub work : OutboxState
  pub desk : Desk
  pub tags : Tags
  pub pace : Pace
  pub view : AppView

abbrev pub stage_of : OutboxState → Desk → Tags → Pace → AppView → Stage
stage_of work desk tags pace view = record { work = work; desk = desk; tags = tags; pace = pace; view = view }

abbrev pub with_due : OutboxState → Option Place → OutboxState
with_due w due = record w { tally = record w.tally { due = due } }

-- `Did`: the loan was given back. `Idle`: a refill slot was seen in use, and it is due.
abbrev pub GivesLoanBack : Place → OutboxState → OutboxState → AppView → AppView → PollTurn → Type 0
GivesLoanBack loan w z old new Did = (z ≡ w) × (new ≡ gave old loan)
GivesLoanBack loan w z old new (Idle why) = (why ≡ RefillFull) × (z ≡ with_due w (Some loan)) × AppOnlySaw RefillInUse old new × HasWrittenRingful old
GivesLoanBack loan w z old new (Ended poured) = ⊥

-- A notice came for the tag of a loan. The tag is out no longer, and the loan goes back; nothing else changed.
pub record NoticeCame (was now : Stage) : Type 0 where
  pub sent : Sent
  pub at : ℕ
  pub is : slice_get was.work.out at ≡ Some sent
  pub took : TakesTag was.tags now.tags (Some sent.tag)
  pub work : now.work ≡ with_due (record was.work { out = remove was.work.out at }) now.work.tally.due
  pub back : GoesBack sent.loan now.work.tally.due was.view now.view
  pub desk : now.desk ≡ was.desk

abbrev pub sent_out : OutboxState → TallyState → Sent → OutboxState
sent_out w tally sent = record w { tally = tally; out = w.out ++ sent ∷ []; pressed = false }

-- An item's bytes were read. Its tag went out with its loan; or there was no memory to count them, and the stream stopped; or
-- the carrier failed, and then no tag and no loan is out, none was given back, and the stream stopped.
pub record CarriedItem (was now : Stage) : Type 0 where
  pub desk : Desk
  pub view : AppView
  pub lent : Lent
  pub item : IsItem was.desk desk was.view view lent
  pub only : OnlySteps was.view view
  pub tally : TallyState
  pub due : tally.due ≡ was.work.tally.due
  pub read : AppView
  pub reads : OnlyReads view read
  pub went : ((now.desk ≡ desk) × (now.view ≡ read) × (tag : ℕ) × (lookup (nat_eq tag) was.tags ≡ None)
      × (now.tags ≡ was.tags ++ (tag, lent.flow) ∷ [])
      × (now.work ≡ sent_out was.work tally (record { tag = tag; flow = lent.flow; loan = lent.loan }))
      × (tally.stopped ≡ was.work.tally.stopped))
      ⊎ ((now.desk ≡ stopped_with desk now.desk.flows)
      × (((now.view ≡ record view { helds = [] }) × (now.tags ≡ was.tags)
      × (now.work ≡ record was.work { tally = tally; uncarried = Some lent.loan; pressed = false }) × (tally.stopped ≡ stop.Memory))
      ⊎ (GaveAllUp read now.view × (now.tags ≡ [])
      × (now.work ≡ record was.work { tally = tally; out = []; pressed = false }) × (tally.stopped ≡ stop.Write))))

-- The stream was stopped, and no tag is out. The loan that wasn't carried was given up, and the user counts were scrubbed, or a
-- refill slot was seen in use.
pub record Scrubbed (was now : Stage) : Type 0 where
  pub stopped : was.desk.stopped ≡ true
  pub out : was.work.out ≡ []
  pub work : now.work ≡ record was.work { uncarried = None }
  pub done : Bool
  pub scrubs : ScrubsOrWaits was.desk now.desk (without_loan was.work.uncarried was.view) now.view done
  pub tags : now.tags ≡ was.tags
  pub pace : now.pace ≡ was.pace

-- or it wasn't stopped, or a tag is out, and then nothing is done
abbrev pub ScrubsFirst : Stage → Stage → Type 0
ScrubsFirst was now = (((was.desk.stopped ≡ false) ⊎ (was.work.out ≢ [])) × (now ≡ was)) ⊎ Scrubbed was now

-- one step of the stream gave this; the work is then this, and no tag moved
abbrev pub OnlyStep : Stage → Stage → OutboxState → Step → Type 0
OnlyStep was now work step = (now.work ≡ work) × (now.tags ≡ was.tags) × OnlySteps was.view now.view
    × Steps was.desk now.desk was.view now.view step

abbrev pub out_of_memory : OutboxState → OutboxState
out_of_memory w = record w { tally = record w.tally { stopped = stop.Memory }; pressed = false }

-- The stream gave an item, had no memory, or was told for the first time that no note comes any more; or it waits.
abbrev pub StepDoes : Stage → Stage → PollTurn → Type 0
StepDoes was now Did = (was.desk.ended ≡ false) × (CarriedItem was now
    ⊎ (OnlyStep was now (out_of_memory was.work) Memory ⊎ OnlyStep was now (record was.work { pressed = true }) stream_ended))
StepDoes was now (Idle (Stream why)) = OnlyStep was now (record was.work { pressed = is_held why }) (Waiting why)
StepDoes was now other = ⊥

-- so it took a step, once it had scrubbed where it should
pub record TookStep (was now : Stage) (ran : PollTurn) : Type 0 where
  pub stage : Stage
  pub first : ScrubsFirst was stage
  pub does : StepDoes stage now ran

-- the loan that was due was given back, and nothing else changed
abbrev pub GaveDue : Stage → Stage → Place → Type 0
GaveDue was now loan = (now.work ≡ with_due was.work None) × (now.desk ≡ was.desk) × (now.tags ≡ was.tags) × (now.view ≡ gave was.view loan)

-- The loan that was due was given back. Or none was due, and a notice came or a step was taken.
abbrev pub Does : Stage → Stage → Type 0
Does was now = MatchOption was.work.tally.due (NoticeCame was now ⊎ TookStep was now Did) (GaveDue was now)

-- The stream waits; or the carrier had no notice while no more loans may go out, or no note comes any more; or a refill slot was seen
-- in use, that of the loan that is due, or any one as it was to leave.
abbrev pub Idles : Rests → Stage → Stage → Type 0
Idles (Stream why) was now = (was.work.tally.due ≡ None) × TookStep was now (Idle (Stream why))
Idles NoNotice was now = (was.work.tally.due ≡ None) × (now.work ≡ was.work) × (now.desk ≡ was.desk) × (now.tags ≡ was.tags)
    × (now.view ≡ was.view) × Rose was.pace.looks now.pace.looks
    × ((many_kept was.work ≡ most_out) ⊎ ((was.desk.ended ≡ true) × (was.work.out ≢ [])))
Idles RefillFull was now = (was.work.tally.due ≢ None) × (now.work ≡ was.work) × (now.desk ≡ was.desk) × (now.tags ≡ was.tags)
    × AppOnlySaw RefillInUse was.view now.view × HasWrittenRingful was.view
Idles NotQuiet was now = (was.work.tally.due ≡ None) × (now.work ≡ record was.work { uncarried = None }) × (now.desk ≡ was.desk)
    × (was.tags ≡ []) × (now.tags ≡ []) × (was.desk.ended ≡ true)
    × AppOnlySaw not_quiet (without_loan was.work.uncarried was.view) now.view
    × HasWritten (without_loan was.work.uncarried was.view)

-- The carrier was asked for a notice as it should, and told of the loan that went back; or it had none, and then it is as that left it
-- but for an item that was carried.
pub record Asks {C : Type 0} (answers : Bool → C → C → Option ℕ → Type 0) (tags_at : C → Tags) (pace_at : C → Pace) (was now : Stage) (old new : C)
    : Type 0 where
  pub asked : C
  pub told : Option ℕ
  pub by : AskedBy answers was.work old asked told
  pub took : TakesTag (tags_at old) (tags_at asked) told
  -- once
  pub pace : pace_at new ≡ pace_at asked
  pub goes : PaceGoes (pace_at old) (pace_at new)
  pub rest : MatchOption told ((new ≡ asked) ⊎ CarriedItem was now) (λ tag. (new ≡ asked) × NoticeCame was now)

-- A carrier that keeps so many tags out was asked once, where no loan was due. So few were out that it had no notice, and the tags are
-- those of before but for an item that was carried; or more were, and the one was told that went out first.
abbrev pub KeepsDelay : Stage → Stage → Type 0
KeepsDelay was now = MatchOption was.work.tally.due
    (MatchBool (nat_le (length was.tags) (if is_urgent was.work then 0 else was.pace.delay))
    ((now.pace ≡ record was.pace { looks = raised was.pace.looks }) × ((now.tags ≡ was.tags) ⊎ CarriedItem was now))
    ((now.pace ≡ was.pace) × NoticeCame was now × (first : ℕ × ℕ) × (was.tags ≡ first ∷ now.tags)))
    (λ loan. now.pace ≡ was.pace)

abbrev pub TurnDoes : Stage → Stage → PollTurn → Type 0
TurnDoes was now Did = Does was now
TurnDoes was now (Idle why) = Idles why was now
TurnDoes was now (Ended poured) = (was.work.tally.due ≡ None) × (was.tags ≡ []) × (was.desk.ended ≡ true)
    × (now.view ≡ has_left (without_loan was.work.uncarried was.view))
    × ((poured.stopped ≡ stop.No) ↔ (was.desk.stopped ≡ false)) × (poured.stopped ≡ was.work.tally.stopped) × IsStrictlySortedBy nat_cmp (keys_of poured.flows.items)
    × Each (λ f. 0 < f.1) poured.flows.items

-- It goes on, or has left with what any application owes that isn't to quit, and keeps no loan and writes no raw entry.
abbrev pub ForwardGives : (ℕ → Option (List ℕ)) → ShelfCounts → OutboxState → Desk → Tags → (ℕ → Option (List ℕ)) → ShelfCounts → AppView
    → PollTurn → Type 0
ForwardGives first losses w st tags got losses_now v (Ended poured) =
    (how : Behaviour) → (how.quit ≡ None → HasLeft how first got losses losses_now v (pour_end poured))
    × (how.leak ≡ 0 → how.stray ≡ 0 → HasReturned how poured.stopped poured.written v)
ForwardGives first losses w st tags got losses_now v Did = ForwardStands first losses w st tags got losses_now v
ForwardGives first losses w st tags got losses_now v (Idle why) = ForwardStands first losses w st tags got losses_now v

-- what a contract sees of it
pub record ForwardView (F C : Type 0) : Type 0 where
  pub face : F
  pub desk : Desk
  pub carrier : C
  pub work : OutboxState

-- what a poll gives and does is what one turn gives and does
abbrev pub PollForwards : (ℕ → Option (List ℕ)) → ShelfCounts → OutboxState → Desk → Tags → (ℕ → Option (List ℕ)) → ShelfCounts → AppView
    → Poll Poured → Type 0
PollForwards first losses w st tags got losses_now v (Ready poured) = ForwardGives first losses w st tags got losses_now v (Ended poured)
PollForwards first losses w st tags got losses_now v Pending = ForwardStands first losses w st tags got losses_now v

abbrev pub PollDoes : (AppLook → Type 0) → Stage → Stage → Poll Poured → Type 0
PollDoes is_so was now (Ready poured) = TurnDoes was now (Ended poured)
PollDoes is_so was now Pending = TurnDoes was now Did ⊎ ((why : Rests) × TurnDoes was now (Idle why) × RestsAreTold is_so (Idle why))
