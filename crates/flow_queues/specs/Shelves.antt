-- What the shelf has, over any number of steps.
use Rattle.std.specs.{Prelude.{◌≡◌, ◌≢◌, ℕ, ◌+◌, ◌-◌, ◌<◌, ◌≤◌, List, ◌++◌, length, drop, Option, IsSome}, Io.KnownBytes.{Keeps}}
use Rattle.zr_kinds.specs.CopyingReceiver.{values_from}
use Rattle.zr_io.specs.Moved.{Gained}
use Rattle.board_face.specs.declared.views.app.{LentPiece.{LentPiece}, Reading.{Reading}, TakenNote.{TakenNote}, AppView.{AppView}}
use Rattle.flow_queues.specs.{declared.queues.{FlowQueue.{FlowQueue}, Lending.{Lending}}, Marks.{Mark, marks_from}}
use Rattle.flow_queues.specs.{Core.{Each, many, IsIn, lent_piece, own_notes, BeginAt, AreReadAt, placed_of, most_at_once}, Totals.{loan_entries}}

-- since `first`, a flow's shelf gained the bytes at its first marks, as many as are counted
pub record IsShelved (first kept : ℕ → Option (List ℕ)) (taken : List TakenNote) (reads : List Reading) (flow : FlowQueue) : Type 0 where
  pub gained : Gained (first flow.number) (kept flow.number) (λ bytes. AreReadAt taken reads (values_from (placed_of flow taken).at flow.bytes 0) bytes)

-- the loans that no entry gave back: those that are out, and those that were abandoned
abbrev pub kept_loans : AppView → List LentPiece
kept_loans v = v.loans ++ drop (loan_entries v) v.returned

-- these are marks of one of these loans, from one of its bytes on
pub record AreOfOneLoan (taken : List TakenNote) (lent : List LentPiece) (marks : List Mark) : Type 0 where
  pub lending : Lending
  pub known : lending.note < length taken
  pub out : IsIn (lent_piece taken lending) lent
  pub from : ℕ
  pub within : from + length marks ≤ lending.loan.len
  pub are : marks ≡ marks_from lending.note (lending.at + from) (length marks)

-- the bytes at a flow's first marks, at least as many as are counted, and at most those of one append more, of one of these loans
pub record ReadsFront (taken : List TakenNote) (reads : List Reading) (lent : List LentPiece) (flow : FlowQueue) (bytes : List ℕ) : Type 0 where
  pub count : ℕ
  pub at_least : flow.bytes ≤ count
  pub at_once : count ≤ flow.bytes + most_at_once
  pub beyond : flow.bytes < count → AreOfOneLoan taken lent (values_from (placed_of flow taken).at (count - flow.bytes) flow.bytes)
  pub below : (p : ℕ) → p < count → IsSome ((placed_of flow taken).at p)
  pub are : AreReadAt taken reads (values_from (placed_of flow taken).at count 0) bytes

-- once the shelf has failed, it may have some bytes of a flow more
pub record IsFrontShelved (first kept : ℕ → Option (List ℕ)) (taken : List TakenNote) (reads : List Reading) (lent : List LentPiece)
    (flow : FlowQueue) : Type 0 where
  pub gained : Gained (first flow.number) (kept flow.number) (ReadsFront taken reads lent flow)

pub record AreFronts (first kept : ℕ → Option (List ℕ)) (own : List FlowQueue) (v : AppView) : Type 0 where
  pub flows : Each (IsFrontShelved first kept v.taken v.reads (kept_loans v)) own
  -- of no flow but this one
  pub torn : ℕ
  pub exact : Each (λ f. f.number ≢ torn → IsShelved first kept v.taken v.reads f) own
  pub others : (number : ℕ) → many number own ≡ 0 → Keeps (first number) (kept number)

pub record AreShelved (first kept : ℕ → Option (List ℕ)) (own : List FlowQueue) (v : AppView) : Type 0 where
  pub flows : Each (IsShelved first kept v.taken v.reads) own
  pub others : (number : ℕ) → many number own ≡ 0 → Keeps (first number) (kept number)

-- what was appended of a flow has its place
pub record FlowEnds (taken : List TakenNote) (flow : FlowQueue) : Type 0 where
  pub begun : BeginAt flow.queue.base (own_notes flow.number taken)
  pub below : (p : ℕ) → p < flow.bytes → IsSome ((placed_of flow taken).at p)
