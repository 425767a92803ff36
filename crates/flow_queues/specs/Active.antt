-- What is next in the stream of the active flow is lent.
use Rattle.std.specs.Prelude.{◌≡◌, ◌≢◌, ◌<◌, true, false, [], ◌∷◌, ◌++◌, length, slice_get, slice_index_or, slice_set, Some}
use Rattle.zr_kinds.specs.declared.ring.Completion.{Completion}
use Rattle.tcp_reorder.specs.Queue.{next_of}
use Rattle.board_face.specs.{AppCalls.{AppOnlySaw}, declared.views.app.{AppLook.TheVariants.{RawOnItsWay}, AppView.{AppView}}}
use Rattle.flow_queues.specs.declared.{queues.{FlowQueue.{FlowQueue}, Lending.{Lending}}, lending.Next.{Next, TheVariants.{Lent, LentCopy, NoneInOrder, Unsettled, ReserveHeld}}}
use Rattle.flow_queues.specs.{Core.{Each, lent_piece, is_copy}, Flows.{IsAtRest}, Lent.{LentNext, SawNoSpare, IsNext}, Kept.{QueueState, LoansOut, QueuesStand}}

-- something of the active flow is in order
pub record HasNext (st : QueueState) : Type 0 where
  pub flow : FlowQueue
  pub active : slice_get st.flows st.active ≡ Some flow
  pub next : flow.queue.popped ≢ next_of flow.queue

-- and is to be copied
pub record HasCopyNext (st : QueueState) : Type 0 where
  pub flow : FlowQueue
  pub active : slice_get st.flows st.active ≡ Some flow
  pub next : IsNext true flow.queue

-- the loan waits to be read, with this told of it
abbrev pub with_unread : LoansOut → Completion → Lending → LoansOut
with_unread out told loan = record out { unread = out.unread ++ (told, loan) ∷ [] }

-- what is next in the stream of the active flow was lent, and whatever was out is out with it
pub record LentOne (was now : QueueState) (old new : AppView) (loan : Lending) : Type 0 where
  pub own : FlowQueue
  pub within : was.active < length was.flows
  pub active : own ≡ slice_index_or was.flows was.active own
  pub after : FlowQueue
  pub lent : LentNext old new own after loan
  pub is : now ≡ record was { flows = slice_set was.flows was.active after }
  pub stands : (out : LoansOut) (told : Completion) → told.user_data ≡ own.number → QueuesStand was out old
      → QueuesStand now (with_unread out told loan) new

abbrev pub LendsActive : QueueState → QueueState → AppView → AppView → Next → Type 0
LendsActive was now old new (Lent loan) = LentOne was now old new loan × (is_copy (lent_piece old.taken loan) ≡ 0)
LendsActive was now old new (LentCopy loan) = LentOne was now old new loan × (is_copy (lent_piece old.taken loan) ≡ 1)
LendsActive was now old new NoneInOrder = (now ≡ was) × (new ≡ old) × Each IsAtRest was.flows
LendsActive was now old new Unsettled = (now ≡ was) × AppOnlySaw RawOnItsWay old new × HasNext was × (old.settled ≡ false)
LendsActive was now old new ReserveHeld = (now ≡ was) × SawNoSpare old new × HasCopyNext was
