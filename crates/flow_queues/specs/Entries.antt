-- The refill entries that an application wrote.
use Rattle.std.specs.Prelude.{◌≡◌, ℕ, suc, ◌+◌, ◌<◌, ◌==◌, true, false, if◌then◌else◌, List, [], ◌∷◌, ◌++◌, map, length, drop, Some}
use Rattle.zr_kinds.specs.declared.ring.Rqe.{Rqe}
use Rattle.area_layout.specs.Layout.{judged}
use Rattle.board_face.specs.{AppEvents.{entry_of, reserve_of}, declared.views.app.{LentPiece.{LentPiece}, WrittenEntry.{WrittenEntry}, AppView.{AppView}}}
use Rattle.flow_queues.specs.Core.{total}

-- those that gave loans back
abbrev pub loans_of : List WrittenEntry → List Rqe
loans_of [] = []
loans_of (w ∷ ws) = (if w.of_loan then w.entry ∷ [] else []) ++ loans_of ws

-- they are those of these loans, one of each, in order
abbrev pub GivesAll : AppView → List LentPiece → Type 0
GivesAll v loans = loans_of v.written ≡ map (λ l. entry_of v.setting.layout l.place) loans

-- 1 where the loan lies in this buffer
abbrev pub lies_in : ℕ → LentPiece → ℕ
lies_in buffer l = if l.place.buffer == buffer then 1 else 0

-- how many loans were given back or abandoned, those in the reserve aside
abbrev pub returned_aside : AppView → ℕ
returned_aside v = total (λ l. if l.place.buffer == reserve_of v then 0 else 1) v.returned

-- A loan in the entry's buffer is out still, or went after so many had been given back. It may have been lent later.
abbrev pub WasLive : AppView → ℕ → Rqe → Type 0
WasLive v given entry = (buffer : ℕ) × (judged v.setting.layout entry ≡ Some buffer)
    × (0 < total (lies_in buffer) v.loans + total (lies_in buffer) (drop given v.returned))

-- Each entry of a loan is followed by so many more before the next one: each of these was written raw, the same as it, or
-- dropped, which needs this cause, by how many loans had been given back and by the entry. With them the entry of the last
-- loan, and how many still follow.
pub data AreBlocks (most : ℕ) (MayDrop : ℕ → Rqe → Type 0) : List WrittenEntry → Rqe → ℕ → Type 0 where
  none : (entry : Rqe) → AreBlocks most MayDrop [] entry 0
  loan : {written : List WrittenEntry} {last : Rqe} → AreBlocks most MayDrop written last 0 → (entry : Rqe)
      → AreBlocks most MayDrop (written ++ record { entry = entry; of_loan = true } ∷ []) entry most
  raw : {written : List WrittenEntry} {entry : Rqe} {left : ℕ} → AreBlocks most MayDrop written entry (suc left)
      → AreBlocks most MayDrop (written ++ record { entry = entry; of_loan = false } ∷ []) entry left
  dropped : {written : List WrittenEntry} {entry : Rqe} {left : ℕ} → AreBlocks most MayDrop written entry (suc left)
      → MayDrop (length (loans_of written)) entry → AreBlocks most MayDrop written entry left
