-- What any application keeps of its flows, as plain data, and how that stands to what its face has seen.
use Rattle.std.specs.Prelude.{ℕ, ◌+◌, ◌≤◌, ◌==◌, if◌then◌else◌, List, [], ◌∷◌, ◌++◌, length}
use Rattle.zr_kinds.specs.{declared.ring.Completion.{Completion}, CopyingReceiver.{values_from}}
use Rattle.board_face.specs.{AppCalls.{IsHere}, declared.views.app.{TakenNote.{TakenNote}, AppView.{AppView}}}
use Rattle.flow_queues.specs.{declared.queues.{FlowQueue.{FlowQueue}, Lending.{Lending}}, Marks.{Mark}}
use Rattle.flow_queues.specs.Core.{total, many, placed_of, held_len, short_bytes, unsplit_len, Stands, Each}
use Rattle.flow_queues.specs.{Flows.{RestBut, IsIndex}, Shelves.{FlowEnds}, Totals.{taken_len}}

pub record QueueState : Type 0 where
  -- how many notes entered
  pub notes : ℕ
  pub flows : List FlowQueue
  -- the place of each flow, by its number
  pub index : List (ℕ × ℕ)
  -- the place of the flow that may have a piece in order
  pub active : ℕ

-- of no flow
abbrev pub no_queues : QueueState
no_queues = record { notes = 0; flows = []; index = []; active = 0 }

-- the loans that are out: those that wait to be read, each with what tells of it, and those that were read
pub record LoansOut : Type 0 where
  pub unread : List (Completion × Lending)
  pub read : List Lending

-- the marks of a flow's bytes that are done with
abbrev pub marks_done : ℕ → List FlowQueue → List TakenNote → List Mark
marks_done number [] taken = []
marks_done number (f ∷ fs) taken = (if f.number == number then values_from (placed_of f taken).at f.bytes 0 else []) ++ marks_done number fs taken

-- Each spare was for a byte that came in a note, and is for one that isn't kept any more; each loan was of a byte that was taken, and is
-- of one that isn't kept any more.
pub record IsBounded (flows : List FlowQueue) (v : AppView) : Type 0 where
  pub spares : v.spares + total (λ f. short_bytes f.queue) flows ≤ total unsplit_len v.taken
  pub loans : length v.loans + length v.returned + total held_len v.helds + total (λ f. short_bytes f.queue) flows ≤ total taken_len v.taken

-- each flow is there once, by its number, and what is done with of it has its place
pub record FlowsSound (st : QueueState) (v : AppView) : Type 0 where
  pub ends : Each (FlowEnds v.taken) st.flows
  pub distinct : (number : ℕ) → many number st.flows ≤ 1
  pub index : IsIndex st.index st.flows

-- notes enter, and pieces are lent
pub record QueuesStand (st : QueueState) (out : LoansOut) (v : AppView) : Type 0 where
  pub stands : Stands st.notes st.flows out.unread out.read v
  pub rest : RestBut st.active st.flows
  pub index : IsIndex st.index st.flows
  pub bounded : IsBounded st.flows v

-- the application hasn't left, and its queues stand so, whichever loans are out
pub record QueuesWork (st : QueueState) (v : AppView) : Type 0 where
  pub here : IsHere v
  pub out : LoansOut
  pub stand : QueuesStand st out v
