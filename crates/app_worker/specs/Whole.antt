-- What the steps of a turn do to all that an application keeps.
use Rattle.std.specs.{Prelude.{◌≡◌, ◌≢◌, ℕ, ◌+◌, ◌<◌, ◌≤◌, Bool, true, false, List, [], ◌++◌, length, ◌⊎◌, Option, None}, Io.KnownBytes.{Keeps}}
use Rattle.zr_kinds.specs.declared.behaviour.Stopped.TheVariants as stop
use Rattle.zr_kinds.specs.CopyingReceiver.{values_from}
use Rattle.zr_io.specs.Moved.{Gained, Rose}
use Rattle.completion_ring.specs.Ring.{IsFull}
use Rattle.board_face.specs.{Looks.{AppRose}, AppCalls.{AppOnlySaw}, declared.views.app.AppLook.TheVariants.{RawOnItsWay, RefillInUse}}
use Rattle.board_face.specs.declared.views.app.{TakenNote.{TakenNote}, AppView.{AppView}}
use Rattle.flow_queues.specs.{declared.queues.FlowQueue.{FlowQueue}, Entries.{GivesAll}, Core.{total, HasTokens, Each, many, AreReadAt, placed_of}}
use Rattle.flow_queues.specs.{Flows.{IsIndex, IsAtRest}, Shelves.{FlowEnds, AreShelved, AreFronts}, Totals.{lent_bytes, lent_len}, Lent.{SawNoSpare}, Active.{HasNext, HasCopyNext}}
use Rattle.app_worker.specs.declared.{stack.Delivery.{Delivery, TheVariants.{Did as lent_it, NoneInOrder, Full, Unsettled, ReserveHeld}}, turning.Read.{Read}}
use Rattle.app_worker.specs.declared.{turning.Read.TheVariants.{Did as read_it, NoneUnread, Quit, Failed}, reading.Pushed.{Pushed}}
use Rattle.app_worker.specs.declared.reading.Pushed.TheVariants.{Nothing as pushed_nothing, All as pushed_all, Part as pushed_part, InUse as pushed_none}
use Rattle.app_worker.specs.declared.straying.GivenBack.{GivenBack, TheVariants.{Nothing as nothing_given, Did as given, Part as given_in_part, InUse as given_none}}
use Rattle.app_worker.specs.{State.{State, read_of, Working, Common, app_steps, queues_of}, Moves.{Moves, Goes}, Flushing.{FlushesUnread}}

-- what was kept of a flow went on by the bytes that were read at its next marks
pub record Appended (flow : FlowQueue) (taken : List TakenNote) (new : AppView) (len : ℕ) (kept kept_now : ℕ → Option (List ℕ)) : Type 0 where
  pub gained : Gained (kept flow.number) (kept_now flow.number)
      (λ bytes. AreReadAt taken new.reads (values_from (placed_of flow taken).at len flow.bytes) bytes)
  pub others : (other : ℕ) → other ≢ flow.number → Keeps (kept other) (kept_now other)

-- ---- lending

-- The piece that is next in the stream was lent and posted.
pub record PostedOne (was now : State) (old new : AppView) : Type 0 where
  pub flushes : FlushesUnread was now old new
  pub next : HasNext (queues_of was)
  pub steps : app_steps was old < app_steps now new
  pub posted : length now.posted.entries ≡ length was.posted.entries + 1
  pub same : now ≡ record was { flows = now.flows; posted = now.posted; loans = now.loans; copied = now.copied; flush = now.flush }
  pub taken : new.taken ≡ old.taken
  pub left : new.left ≡ old.left

abbrev pub Lends : State → State → AppView → AppView → Delivery → Type 0
Lends was now old new lent_it = PostedOne was now old new
Lends was now old new NoneInOrder = (now ≡ was) × (new ≡ old) × Each IsAtRest was.flows
Lends was now old new Full = (now ≡ was) × (new ≡ old) × IsFull was.posted
Lends was now old new Unsettled = (now ≡ was) × AppOnlySaw RawOnItsWay old new × HasNext (queues_of was)
Lends was now old new ReserveHeld = (now ≡ was) × SawNoSpare old new × HasCopyNext (queues_of was)

-- ---- giving back

-- nothing is due any more: what was is given back, and entries are to follow it, or it is kept to the end
pub record GaveOne (was now : State) (old new : AppView) : Type 0 where
  pub flushes : FlushesUnread was now old new
  pub same : now ≡ record was { due = None; leaked = now.leaked; stray = now.stray }
  pub steps : was.due ≢ None → app_steps was old < app_steps now new
  pub taken : new.taken ≡ old.taken
  pub left : new.left ≡ old.left

abbrev pub GivesOneOrNone : State → State → AppView → AppView → Bool → Type 0
GivesOneOrNone was now old new true = GaveOne was now old new
GivesOneOrNone was now old new false = (now ≡ was) × (was.due ≢ None) × AppOnlySaw RefillInUse old new

-- loans were given back or kept, and entries written
pub record GaveLoansBack (was now : State) (old new : AppView) : Type 0 where
  pub flushes : FlushesUnread was now old new
  pub same : now ≡ record was { due = now.due; leaked = now.leaked; stray = now.stray }
  pub steps : app_steps was old < app_steps now new
  pub taken : new.taken ≡ old.taken
  pub left : new.left ≡ old.left

abbrev pub PushesLeft : State → State → AppView → AppView → Pushed → Type 0
PushesLeft was now old new pushed_nothing = (now ≡ was) × (new ≡ old) × (was.stray.left ≡ 0)
PushesLeft was now old new pushed_all = GaveLoansBack was now old new × (now ≡ record was { stray = now.stray }) × (0 < was.stray.left) × (now.stray.left ≡ 0)
PushesLeft was now old new pushed_part = GaveLoansBack was now old new × (now ≡ record was { stray = now.stray }) × AppRose RefillInUse old new
PushesLeft was now old new pushed_none = (now ≡ was) × AppOnlySaw RefillInUse old new × (0 < was.stray.left)

-- a loan is due, or entries are to follow one
abbrev pub IsDue : State → Type 0
IsDue st = (st.due ≢ None) ⊎ (0 < st.stray.left)

abbrev pub GivesDueBack : State → State → AppView → AppView → GivenBack → Type 0
GivesDueBack was now old new nothing_given = (now ≡ was) × (new ≡ old) × (was.due ≡ None) × (was.stray.left ≡ 0)
GivesDueBack was now old new given = GaveLoansBack was now old new × (now.due ≡ None) × (now.stray.left ≡ 0)
GivesDueBack was now old new given_in_part = GaveLoansBack was now old new × AppRose RefillInUse old new
GivesDueBack was now old new given_none = (now ≡ was) × AppOnlySaw RefillInUse old new × IsDue was

-- ---- reading

-- The oldest loan was read and appended, and is due.
pub record ReadOne (was now : State) (old new : AppView) (kept kept_now : ℕ → Option (List ℕ)) : Type 0 where
  pub flushes : FlushesUnread was now old new
  pub working : Working now new
  pub common : Common now new
  pub goes : Goes was now old new kept kept_now
  pub steps : app_steps was old < app_steps now new
  pub unread : length was.unread ≡ length now.unread + 1
  pub due : now.due ≢ None
  pub same : now ≡ record was { flows = now.flows; unread = now.unread; due = now.due; written = now.written; flush = now.flush }
  -- once nothing is unread, all was read that was to be
  pub flush : now.flush ≡ true → (was.flush ≡ true) × (now.unread ≢ [])
  pub flushed : now.flush ≡ false → (was.flush ≡ false) ⊎ (now.unread ≡ [])
  pub rest : Each IsAtRest was.flows → Each IsAtRest now.flows
  pub taken : new.taken ≡ old.taken
  pub left : new.left ≡ old.left

-- The tokens that are out are kept, and what was appended has its place.
pub record Torn (st : State) (v : AppView) : Type 0 where
  pub tokens : HasTokens st.flows (st.unread ++ st.posted.entries) (read_of st) v
  pub flows : Each (FlowEnds v.taken) st.flows
  pub distinct : (number : ℕ) → many number st.flows ≤ 1
  pub index : IsIndex st.index st.flows
  pub given : GivesAll v v.returned
  pub lent : Each (λ p. p.1.note < length v.taken) (st.unread ++ st.posted.entries)
  pub due_lent : Each (λ l. l.note < length v.taken) (read_of st)
  pub within_lent : total (λ f. f.bytes) st.flows ≤ lent_bytes v
  -- each loan that it doesn't have any more was appended
  pub whole_given : total lent_len v.returned ≤ total (λ f. f.bytes) st.flows

-- The oldest loan was appended up to the byte at which the application quits, and is due.
pub record ReadQuit (was now : State) (old new : AppView) (kept kept_now : ℕ → Option (List ℕ)) : Type 0 where
  pub torn : Torn now new
  pub common : Common now new
  pub moves : Moves was now old new
  pub shelved : (first : ℕ → Option (List ℕ)) → AreShelved first kept was.flows old → AreShelved first kept_now now.flows new
  pub stopped : now.stopped ≡ stop.Quit
  pub same : now ≡ record was { flows = now.flows; unread = now.unread; due = now.due; written = now.written; flush = now.flush; stopped = now.stopped }
  pub taken : new.taken ≡ old.taken
  pub left : new.left ≡ old.left

-- The shelf failed.
pub record ReadFailed (was now : State) (old new : AppView) (kept kept_now : ℕ → Option (List ℕ)) (faults faults_now : ℕ) : Type 0 where
  pub torn : Torn now new
  pub common : Common now new
  pub moves : Moves was now old new
  pub rose : Rose faults faults_now
  pub fronts : (first : ℕ → Option (List ℕ)) → AreShelved first kept was.flows old → AreFronts first kept_now now.flows new
  pub same : now ≡ record was { flows = now.flows; unread = now.unread; due = now.due; written = now.written; flush = now.flush }
  pub taken : new.taken ≡ old.taken
  pub left : new.left ≡ old.left

abbrev pub Reads : State → State → AppView → AppView → (ℕ → Option (List ℕ)) → (ℕ → Option (List ℕ)) → ℕ → ℕ → Read → Type 0
Reads was now old new kept kept_now faults faults_now read_it = ReadOne was now old new kept kept_now
Reads was now old new kept kept_now faults faults_now NoneUnread = (now ≡ was) × (new ≡ old) × (was.unread ≡ []) × (kept_now ≡ kept)
Reads was now old new kept kept_now faults faults_now Quit = ReadQuit was now old new kept kept_now
Reads was now old new kept kept_now faults faults_now Failed = ReadFailed was now old new kept kept_now faults faults_now

-- ---- taking a note

abbrev pub KeepsShelves : State → State → AppView → AppView → Type 0
KeepsShelves was now old new = (first kept : ℕ → Option (List ℕ)) → AreShelved first kept was.flows old → AreShelved first kept now.flows new
