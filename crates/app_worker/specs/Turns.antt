-- What a turn of an application does, and why it does nothing.
use Rattle.std.specs.Prelude.{◌≡◌, ◌≢◌, ℕ, ◌<◌, ◌≤◌, ◌⊎◌, Bool, true, false, if◌then◌else◌, List, [], ◌∷◌, ◌++◌, length, Option, None}
use Rattle.zr_kinds.specs.declared.fault.Fault.TheVariants.{Memory as memory_fault, Write as write_fault}
use Rattle.zr_kinds.specs.declared.behaviour.Stopped.TheVariants as stop
use Rattle.zr_io.specs.Moved.{Rose}
pub use Rattle.board_face.specs.Looks.{ScrubsIfQuiet}
use Rattle.board_face.specs.{Looks.{AppRose}, declared.views.app.{AppLook.{AppLook}, TakenNote.{TakenNote}, AppView.{AppView}}}
use Rattle.board_face.specs.declared.views.app.AppLook.TheVariants.{NoNote as no_note, CardEnded, RefillInUse, RawOnItsWay, NoSpare, NotQuiet as not_quiet}
use Rattle.app_worker.specs.declared.turn.{Turn.{Turn, TheVariants.{Did, Idle, Finished, Failed}}, Why.{Why}}
use Rattle.app_worker.specs.declared.turn.Why.TheVariants.{NoNote, RefillFull, Unsettled, ReserveHeld, NotQuiet}
use Rattle.app_worker.specs.{State.{State, Working, Common, Bare, AppStands, app_steps, queues_of}, Moves.{Moves, Goes}, Flushing.{FlushesUnread}, Whole.{IsDue}}
use Rattle.app_worker.specs.Stages.{NoneInReserve, LeavesInUse, DoesAll}
use Rattle.flow_queues.specs.{Core.{Each}, Flows.{IsAtRest}, Active.{HasNext, HasCopyNext}}

-- ---- a turn that did nothing

-- tokens, notes, reads and entries are as before; what it knows of its refill slots, and its looks, may not be
pub record IsAsBefore (was now : State) (old new : AppView) : Type 0 where
  pub state : now ≡ was
  pub view : new ≡ record old { settled = new.settled; quiet = new.quiet; looks = new.looks }

abbrev pub look_of : Why → AppLook
look_of NoNote = no_note
look_of RefillFull = RefillInUse
look_of Unsettled = RawOnItsWay
look_of ReserveHeld = NoSpare
look_of NotQuiet = not_quiet

-- ---- when a note may be taken

-- No piece of any flow is in order, each loan that was read was given back or is kept to the end, each entry that follows
-- one was written, and few enough completions are unread, none of them in the reserve.
pub record MayPoll (st : State) (v : AppView) : Type 0 where
  pub in_order : Each IsAtRest st.flows
  pub given : st.due ≡ None
  pub none_left : st.stray.left ≡ 0
  pub posted : st.posted.entries ≡ []
  pub unread : length st.unread ≤ st.how.hold
  pub reserve : NoneInReserve st v

-- ---- why nothing is done

-- it goes on, and nothing is to be given back, reaped or read
pub record IsCaughtUp (st : State) (v : AppView) : Type 0 where
  pub live : st.bare ≡ false
  pub given : st.due ≡ None
  pub none_left : st.stray.left ≡ 0
  pub posted : st.posted.entries ≡ []
  pub unread : length st.unread ≤ st.how.hold
  pub reserve : NoneInReserve st v

-- There is something to do that this reason keeps back, and nothing else.
abbrev pub Because : Why → State → AppView → Type 0
Because NoNote was old = (was.ended ≡ false) × (was.bare ≡ false → MayPoll was old)
Because RefillFull was old = IsDue was
Because Unsettled was old = IsCaughtUp was old × HasNext (queues_of was)
Because ReserveHeld was old = IsCaughtUp was old × HasCopyNext (queues_of was)
Because NotQuiet was old = (was.bare ≡ true) × (was.ended ≡ true)

-- On its way the turn came to a state and a view in which a note may be taken, and no note was taken before.
pub record HasPolled (was now : State) (old new : AppView) : Type 0 where
  pub then_state : State
  pub then_view : AppView
  pub works : Working then_state then_view
  pub may : MayPoll then_state then_view
  pub before : then_view.taken ≡ old.taken
  pub to : Moves was then_state old then_view
  pub from : Moves then_state now then_view new

-- ---- the answers

abbrev pub AnswersTurn : State → State → AppView → AppView → ℕ → ℕ → Turn → Type 0
AnswersTurn was now old new faults faults_now Did = app_steps was old < app_steps now new
AnswersTurn was now old new faults faults_now (Idle why) = IsAsBefore was now old new × AppRose (look_of why) old new
AnswersTurn was now old new faults faults_now Finished = (old.left ≡ false) × (new.left ≡ true) × (now.bare ≡ true)
AnswersTurn was now old new faults faults_now (Failed memory_fault) = (was.stopped ≡ stop.No) × (now.stopped ≡ stop.Memory)
AnswersTurn was now old new faults faults_now (Failed write_fault) = (was.stopped ≡ stop.No) × (now.stopped ≡ stop.Write) × Rose faults faults_now
AnswersTurn was now old new faults faults_now (Failed other) = ⊥

-- ---- a turn

-- one note was taken
abbrev pub TakesOne : AppView → AppView → Type 0
TakesOne old new = (t : TakenNote) × (new.taken ≡ old.taken ++ t ∷ [])

-- at most one note was taken
abbrev pub TakesFew : AppView → AppView → Type 0
TakesFew old new = (new.taken ≡ old.taken) ⊎ TakesOne old new

-- It looked for a note: one was taken, or none had come, or none comes any more.
abbrev pub LooksForOne : State → AppView → AppView → Type 0
LooksForOne now old new = TakesOne old new ⊎ (AppRose no_note old new ⊎ (now.ended ≡ true))

-- It looked for a note: one was taken, or none had come, or none comes any more. Or a refill slot was seen in use.
abbrev pub PollsOne : AppView → AppView → Type 0
PollsOne old new = TakesOne old new ⊎ (AppRose no_note old new ⊎ (AppRose CardEnded old new ⊎ AppRose RefillInUse old new))

-- It has nothing out: it lends, reads, writes and appends nothing, and gives up at once what a note brings. It scrubs, and leaves.
pub record Rests (was now : State) (old new : AppView) (kept kept_now : ℕ → Option (List ℕ)) : Type 0 where
  pub state : now ≡ record was { ended = now.ended; scrubbed = now.scrubbed }
  pub view : new ≡ record old {
    left = new.left;
    quiet = new.quiet;
    scrubbed = new.scrubbed;
    ended = new.ended;
    taken = new.taken;
    looks = new.looks;
  }
  pub kept_is : kept_now ≡ kept

pub record Turns (was now : State) (old new : AppView) (kept kept_now : ℕ → Option (List ℕ)) (faults faults_now : ℕ) (result : Turn) : Type 0 where
  pub stands : AppStands now new
  pub goes : Goes was now old new kept kept_now
  pub answer : AnswersTurn was now old new faults faults_now result
  pub few : TakesFew old new
  -- where it did nothing, that was so, and the shelf has what it had
  pub idle : (why : Why) → result ≡ Idle why → (kept_now ≡ kept) × Because why was old
  -- a loan that was read is left due, or one in the reserve unread, only where a refill slot was seen in use
  pub left_over : now.bare ≡ false → LeavesInUse now old new
  -- a loan in the reserve has all read that was unread
  pub flushes : now.bare ≡ false → FlushesUnread was now old new
  -- it leaves nothing undone but what is kept back
  pub stops : now.bare ≡ false → DoesAll now old new
  -- where nothing is in order as it begins and notes may still come, it looks for one, or saw a refill slot in use
  pub polls : now.bare ≡ false → was.ended ≡ false → Each IsAtRest was.flows → PollsOne old new
  -- it leaves only where it says so
  pub here : result ≢ Finished → new.left ≡ old.left
  -- a note is taken only where that may be
  pub polled : was.bare ≡ false → new.taken ≢ old.taken → HasPolled was now old new
  -- the shelf stops it only where that failed
  pub cause : was.stopped ≢ stop.Write → now.stopped ≡ stop.Write → Rose faults faults_now
  -- and want of memory only where this turn says so
  pub memory : was.stopped ≢ stop.Memory → now.stopped ≡ stop.Memory → result ≡ Failed memory_fault
  -- once it is stopped, it only takes notes, scrubs and leaves
  pub rests : was.bare ≡ true → Rests was now old new kept kept_now
  -- one in each turn, until it was told that none comes any more
  pub looks : was.bare ≡ true → was.ended ≡ false → LooksForOne now old new
  -- and one that hadn't scrubbed has, or it saw a refill slot in use, also while the card goes on
  pub scrubs : was.bare ≡ true → ScrubsIfQuiet old new

-- the turn, once something was done before: then it isn't idle
abbrev pub turn_after : Bool → Turn → Turn
turn_after did (Idle why) = if did then Did else Idle why
turn_after did Did = Did
turn_after did Finished = Finished
turn_after did (Failed fault) = Failed fault

-- ---- one that has nothing out

-- It looked for a note, gave up at once what that brought, and has nothing out again. Whether its refill slots are free it
-- didn't ask.
pub record Passed (st : State) (old new : AppView) (kept : ℕ → Option (List ℕ)) (faults : ℕ) (turn : Turn) : Type 0 where
  pub bare : Bare st new
  pub common : Common st new
  pub goes : Goes st st old new kept kept
  pub answer : AnswersTurn st st old new faults faults turn
  pub few : TakesFew old new
  pub idle : (why : Why) → turn ≡ Idle why → Because why st old
  pub here : new.left ≡ old.left
  pub quiet : new.quiet ≡ old.quiet
  pub rests : Rests st st old new kept kept
  pub looks : LooksForOne st old new

-- A look for a note, of which all that it brings is given up at once, makes this of a turn.
abbrev pub Passes : AppView → AppView → Turn → Type 0
Passes old new turn = (st : State) (kept : ℕ → Option (List ℕ)) (faults : ℕ) → Bare st old → st.bare ≡ true → Common st old
    → st.ended ≡ false → Passed st old new kept faults turn
