-- That a loan was read whole.
use Rattle.std.specs.Prelude.{◌≡◌, ℕ, ◌+◌, ◌<◌, ◌≤◌, List, length, take}
use Rattle.board_face.specs.{AppCalls.{ShowsCopy}, Texts.{further}, declared.views.app.{LentPiece.{LentPiece}, Reading.{Reading}, AppView.{AppView}}}
use Rattle.flow_queues.specs.{declared.queues.Lending.{Lending}, Core.{Each, IsIn, AreReadAt, lent_piece, marks_of_loan}, Totals.{loan_entries}}

-- This byte of the loan was read: some reading is of the loan's bytes from one of them on, and goes beyond this one. Of a copy it
-- shows what was copied, by which alone copies are told apart.
pub record IsByteRead (reads : List Reading) (loan : LentPiece) (byte : ℕ) : Type 0 where
  pub reading : Reading
  pub read : IsIn reading reads
  pub from : ℕ
  pub origin : reading.origin ≡ further loan.origin from
  pub at_or_behind : from ≤ byte
  pub within : byte < from + length reading.bytes
  pub shows : ShowsCopy loan.origin from reading.bytes

-- so many first bytes of it were
abbrev pub IsReadUpTo : List Reading → LentPiece → ℕ → Type 0
IsReadUpTo reads loan many = (byte : ℕ) → byte < many → IsByteRead reads loan byte

-- and all of them
abbrev pub IsReadWhole : List Reading → LentPiece → Type 0
IsReadWhole reads loan = IsReadUpTo reads loan loan.place.len

-- each of these loans was read whole
abbrev pub AreReadWhole : AppView → List Lending → Type 0
AreReadWhole v loans = Each (λ l. IsReadWhole v.reads (lent_piece v.taken l)) loans

-- each loan that an entry gave back was
abbrev pub GivesWhole : AppView → Type 0
GivesWhole v = Each (IsReadWhole v.reads) (take (loan_entries v) v.returned)

-- ---- by marks

-- the loan is of a note that was taken, and these are the bytes at its marks
pub record HasBytes (v : AppView) (loan : LentPiece) : Type 0 where
  pub lending : Lending
  pub known : lending.note < length v.taken
  pub is : loan ≡ lent_piece v.taken lending
  pub bytes : List ℕ
  pub are : AreReadAt v.taken v.reads (marks_of_loan lending) bytes

-- there are these of each loan that an entry gave back
abbrev pub GivesRead : AppView → Type 0
GivesRead v = Each (HasBytes v) (take (loan_entries v) v.returned)
