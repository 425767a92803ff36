-- What a stream keeps beside its face, as plain data, and how that stands to what the face has seen.
use Rattle.std.specs.Prelude.{◌≡◌, ℕ, ◌+◌, ◌≤◌, ◌⊎◌, Bool, true, false, List, [], length, map}
use Rattle.zr_kinds.specs.{CopyingReceiver.{next_missing}, declared.place.Place.{Place}}
use Rattle.board_face.specs.{AppCalls.{HasLoan}, declared.views.app.{HeldPiece.{HeldPiece}, AppView.{AppView}}}
use Rattle.flow_queues.specs.declared.queues.{FlowQueue.{FlowQueue}, Lending.{Lending}}
use Rattle.flow_queues.specs.{Core.{total, Each, many, LieApart, own_notes, placed_of, over_kept}, Kept.{QueueState, LoansOut, QueuesStand}}
use Rattle.flow_queues.specs.{Flows.{IsAtRest, facts_of}, Shelves.{FlowEnds}, Totals.{taken_len}}

pub record Desk : Type 0 where
  pub app : ℕ
  -- how many notes were taken into the queues
  pub notes : ℕ
  pub flows : List FlowQueue
  -- the place of each flow, by its number
  pub index : List (ℕ × ℕ)
  -- the place of the flow that may have a piece in order
  pub active : ℕ
  -- it gives no more items
  pub stopped : Bool
  -- it was told that no note comes any more
  pub ended : Bool
  -- its user counts were scrubbed
  pub scrubbed : Bool

-- what it keeps of its flows
abbrev pub queues_of_desk : Desk → QueueState
queues_of_desk st = record { notes = st.notes; flows = st.flows; index = st.index; active = st.active }

-- each loan that is out was read
abbrev pub all_read : List Lending → LoansOut
all_read out = record { unread = []; read = out }

-- notes enter the queues, and pieces are lent
pub record IsGoing (st : Desk) (v : AppView) : Type 0 where
  -- the loans that are out
  pub out : List Lending
  pub stand : QueuesStand (queues_of_desk st) (all_read out) v

-- all that is in order of each flow's notes was given
pub record IsWhole (st : Desk) (v : AppView) : Type 0 where
  pub flows : Each (λ f. f.bytes ≡ next_missing (placed_of f v.taken)) st.flows
  -- and no other flow has a note
  pub known : (number : ℕ) → many number st.flows ≡ 0 → own_notes number v.taken ≡ []

-- whatever it does
pub record DeskCommon (st : Desk) (v : AppView) : Type 0 where
  pub here : v.left ≡ false
  -- no raw entry is on its way, since none was pushed
  pub settled : v.settled ≡ true
  pub counted : v.scrubbed ≡ st.scrubbed
  -- they are only once it was stopped, and then no loan is out, and each refill slot stays free
  pub bare : st.scrubbed ≡ true → (st.stopped ≡ true) × (v.loans ≡ []) × (v.quiet ≡ true)
  pub owns : v.owns ≡ []
  pub app : v.app ≡ st.app
  pub ended : v.ended ≡ st.ended
  pub apart : LieApart v
  pub found : Each (FlowEnds v.taken) st.flows
  pub distinct : (number : ℕ) → many number st.flows ≤ 1
  -- there were never more loans than bytes were taken
  pub few : length v.loans + length v.returned ≤ total taken_len v.taken

-- between two steps
pub record StreamStands (st : Desk) (v : AppView) : Type 0 where
  pub common : DeskCommon st v
  pub going : st.stopped ≡ false → st.ended ≡ false → IsGoing st v
  -- it has no piece once it was stopped, or no note comes any more
  pub released : (st.stopped ≡ true) ⊎ (st.ended ≡ true) → v.helds ≡ []
  pub whole : st.ended ≡ true → st.stopped ≡ false → IsWhole st v

-- and this loan is out
pub record HoldsLoan (st : Desk) (v : AppView) (loan : Place) : Type 0 where
  pub stands : StreamStands st v
  pub out : HasLoan v loan

-- it stands at this view, and its desk is this one
pub record StaysAt (was now : Desk) (v : AppView) : Type 0 where
  pub stands : StreamStands now v
  pub desk : now ≡ was

-- it stands, no note comes any more, and no loan is out
pub record MayClose (st : Desk) (v : AppView) : Type 0 where
  pub stands : StreamStands st v
  pub ended : st.ended ≡ true
  pub none : v.loans ≡ []

-- no piece is in order
abbrev pub NoneInOrder : Desk → Type 0
NoneInOrder st = st.stopped ≡ false → Each IsAtRest st.flows

-- it stands, notes may come, and no piece is in order: it may look for one
pub record MayLook (st : Desk) (v : AppView) : Type 0 where
  pub stands : StreamStands st v
  pub more : st.ended ≡ false
  pub rest : NoneInOrder st

-- ---- all pieces are given up

-- all that is held is kept by the queues
pub record CanStop (st : Desk) (v : AppView) : Type 0 where
  pub apart : LieApart v
  pub helds : (f : HeldPiece → ℕ) → total f v.helds ≡ total (λ flow. over_kept f flow.queue) st.flows

pub record MayRelease (st : Desk) (v : AppView) : Type 0 where
  pub going : st.stopped ≡ false → st.ended ≡ false → CanStop st v
  pub released : (st.stopped ≡ true) ⊎ (st.ended ≡ true) → v.helds ≡ []

-- they are, and nothing else changed
pub record IsReleased (was now : Desk) (old new : AppView) : Type 0 where
  pub view : new ≡ record old { helds = [] }
  pub same : now ≡ record was { flows = now.flows }
  pub facts : map facts_of now.flows ≡ map facts_of was.flows

-- with what its flows keep then
abbrev pub stopped_with : Desk → List FlowQueue → Desk
stopped_with st flows = record st { flows = flows; stopped = true }

-- and for good
pub record IsStopped (was now : Desk) (old new : AppView) : Type 0 where
  pub view : new ≡ record old { helds = [] }
  pub same : now ≡ stopped_with was now.flows
  pub facts : map facts_of now.flows ≡ map facts_of was.flows
