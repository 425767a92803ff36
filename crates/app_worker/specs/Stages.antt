-- What the stages of a turn do.
use Rattle.std.specs.Prelude.{◌≡◌, ◌≢◌, ℕ, ◌<◌, ◌≤◌, ◌⊎◌, Bool, true, false, if◌then◌else◌, List, [], length, Option, None}
use Rattle.zr_kinds.specs.declared.behaviour.Stopped.TheVariants as stop
use Rattle.zr_io.specs.Moved.{Rose}
use Rattle.board_face.specs.{AppCalls.{AppOnlySaw}, Looks.{AppRose}, AppEvents.{reserve_of}}
use Rattle.board_face.specs.declared.views.app.{AppLook.{AppLook, TheVariants.{RawOnItsWay, NoSpare, RefillInUse}}, AppView.{AppView}}
use Rattle.app_worker.specs.declared.{stack.Delivery.{Delivery, TheVariants.{Did as lent_it}}, stages.Drained.{Drained}}
use Rattle.app_worker.specs.declared.stages.Drained.TheVariants.{Nothing as read_nothing, Did as read_some, InUse, Quit as read_quit, Failed as read_failed}
use Rattle.app_worker.specs.declared.stages.Lent.{Lent, TheVariants.{Nothing as none_in_order, Did as lent_some, Stuck, NoSpare as NoSpareHad}}
use Rattle.app_worker.specs.declared.stages.Lent.TheVariants.{Quit as lending_quit, Failed as lending_failed}
use Rattle.app_worker.specs.{State.{State, LiesOutside, Working, Common, Bare, app_steps, queues_of}, Moves.{Goes}, Flushing.{FlushesUnread}, Whole.{Lends, IsDue}}
use Rattle.flow_queues.specs.{Core.{Each}, Flows.{IsAtRest}, Lent.{SawNoSpare}, Active.{HasNext, HasCopyNext}}

-- it goes on, nothing is posted, and no note was taken
pub record Through (was now : State) (old new : AppView) (kept kept_now : ℕ → Option (List ℕ)) : Type 0 where
  pub flushes : FlushesUnread was now old new
  pub working : Working now new
  pub common : Common now new
  pub goes : Goes was now old new kept kept_now
  pub reaped : now.posted.entries ≡ []
  pub ended : now.ended ≡ was.ended
  -- where nothing was in order, nothing is in order now
  pub rest : Each IsAtRest was.flows → Each IsAtRest now.flows
  pub taken : new.taken ≡ old.taken
  pub left : new.left ≡ old.left

-- it was stopped by its shelf
pub record WriteStopped (was now : State) (old new : AppView) (kept kept_now : ℕ → Option (List ℕ)) (faults faults_now : ℕ) : Type 0 where
  pub bare : Bare now new
  pub is_bare : now.bare ≡ true
  pub common : Common now new
  pub goes : Goes was now old new kept kept_now
  pub reaped : now.posted.entries ≡ []
  pub stopped : now.stopped ≡ stop.Write
  pub rose : Rose faults faults_now
  pub steps : app_steps was old < app_steps now new
  pub taken : new.taken ≡ old.taken
  pub left : new.left ≡ old.left

-- it has written as much as it is to write
pub record HasQuit (was now : State) (old new : AppView) (kept kept_now : ℕ → Option (List ℕ)) : Type 0 where
  pub bare : Bare now new
  pub is_bare : now.bare ≡ true
  pub common : Common now new
  pub goes : Goes was now old new kept kept_now
  pub reaped : now.posted.entries ≡ []
  pub stopped : now.stopped ≡ stop.Quit
  pub steps : app_steps was old < app_steps now new
  pub taken : new.taken ≡ old.taken
  pub left : new.left ≡ old.left

-- nothing changed at all
pub record Untouched (was now : State) (old new : AppView) (kept kept_now : ℕ → Option (List ℕ)) : Type 0 where
  pub state : now ≡ was
  pub view : new ≡ old
  pub kept_is : kept_now ≡ kept

-- how many may stay unread: none, while all is to be read
abbrev pub kept_unread : ℕ → State → ℕ
kept_unread keep st = if st.flush then 0 else keep

-- a loan is due, or entries are to follow one, or all that is unread is to be read
abbrev pub IsLeftOver : State → Type 0
IsLeftOver st = IsDue st ⊎ (st.flush ≡ true)

-- something is left only where a refill slot was seen in use
abbrev pub LeavesInUse : State → AppView → AppView → Type 0
LeavesInUse now old new = IsLeftOver now → AppRose RefillInUse old new

-- nothing unread lies in the reserve
abbrev pub NoneInReserve : State → AppView → Type 0
NoneInReserve st v = Each (LiesOutside (reserve_of v)) st.unread

-- what reading did, down to so many that stay unread
abbrev pub ReadsTo : ℕ → State → State → AppView → AppView → (ℕ → Option (List ℕ)) → (ℕ → Option (List ℕ)) → ℕ → ℕ → Drained
    → Type 0
ReadsTo keep was now old new kept kept_now faults faults_now read_nothing = Untouched was now old new kept kept_now × (length was.unread ≤ kept_unread keep was)
ReadsTo keep was now old new kept kept_now faults faults_now read_some = Through was now old new kept kept_now × (app_steps was old < app_steps now new)
    × (now.due ≡ None) × (length now.unread ≡ kept_unread keep was) × (now.flush ≡ false) × (now.stray.left ≡ 0)
ReadsTo keep was now old new kept kept_now faults faults_now InUse = Through was now old new kept kept_now × (app_steps was old < app_steps now new)
    × (kept_unread keep was ≤ length now.unread) × AppRose RefillInUse old new
ReadsTo keep was now old new kept kept_now faults faults_now read_quit = HasQuit was now old new kept kept_now
ReadsTo keep was now old new kept kept_now faults faults_now read_failed = WriteStopped was now old new kept kept_now faults faults_now

-- pieces were lent, up to one that couldn't be
pub record LentSome (was now : State) (old new : AppView) (did : Bool) (end_by : Delivery) : Type 0 where
  pub flushes : FlushesUnread was now old new
  pub working : Working now new
  pub common : Common now new
  pub goes : (kept : ℕ → Option (List ℕ)) → Goes was now old new kept kept
  pub same : now ≡ record was { flows = now.flows; posted = now.posted; loans = now.loans; copied = now.copied; flush = now.flush }
  pub taken : new.taken ≡ old.taken
  pub left : new.left ≡ old.left
  pub steps : did ≡ true → app_steps was old < app_steps now new
  pub final : end_by ≢ lent_it
  pub first : did ≡ true → HasNext (queues_of was)
  pub nothing : did ≡ false → Lends was now old new end_by

-- What keeps back what is still to be done: a refill slot was seen in use, or a raw entry on its way, or no spare was to be had.
abbrev pub IsKeptBack : AppView → AppView → Type 0
IsKeptBack old new = AppRose RefillInUse old new ⊎ (AppRose RawOnItsWay old new ⊎ AppRose NoSpare old new)

-- All that was in order is lent, and no more is unread than it keeps; and more may come.
pub record HasLentAll (st : State) : Type 0 where
  pub more : st.ended ≡ false
  pub in_order : Each IsAtRest st.flows
  pub unread : length st.unread ≤ st.how.hold

-- it leaves nothing undone but what is kept back
abbrev pub DoesAll : State → AppView → AppView → Type 0
DoesAll now old new = IsKeptBack old new ⊎ HasLentAll now

-- what delivering did
abbrev pub LendsAll : State → State → AppView → AppView → (ℕ → Option (List ℕ)) → (ℕ → Option (List ℕ)) → ℕ → ℕ → Lent
    → Type 0
LendsAll was now old new kept kept_now faults faults_now none_in_order = Untouched was now old new kept kept_now × Each IsAtRest was.flows
LendsAll was now old new kept kept_now faults faults_now lent_some = Through was now old new kept kept_now × (app_steps was old < app_steps now new)
    × LeavesInUse now old new × HasNext (queues_of was) × DoesAll now old new
LendsAll was now old new kept kept_now faults faults_now Stuck = (now ≡ was) × (kept_now ≡ kept) × AppOnlySaw RawOnItsWay old new × HasNext (queues_of was)
LendsAll was now old new kept kept_now faults faults_now lending_quit = HasQuit was now old new kept kept_now
LendsAll was now old new kept kept_now faults faults_now NoSpareHad = (now ≡ was) × (kept_now ≡ kept) × SawNoSpare old new × HasCopyNext (queues_of was)
LendsAll was now old new kept kept_now faults faults_now lending_failed = WriteStopped was now old new kept kept_now faults faults_now

-- so it is of the look that was the cause where nothing was lent
abbrev pub IsSoOfLent : (AppLook → Type 0) → Lent → Type 0
IsSoOfLent is_so Stuck = is_so RawOnItsWay
IsSoOfLent is_so NoSpareHad = is_so NoSpare
IsSoOfLent is_so other = Unit {0}
