-- A lent text stands: of two boards of which one came from the other, both have the same bytes where a loan lies that is out,
-- or still owed, on both.
use Rattle.std.specs.Prelude.{◌≡◌, ℕ, ◌+◌, ◌<◌, ◌⊎◌, List, ◌++◌, Contains}
use Rattle.board_face.specs.{Holders.{sent_to}, Shown.{owed_loans}, Sides.{IsApp}, declared.views.nic.{SentNote.{SentNote}, NicSide.{NicSide}}}
use Rattle.board_face.specs.declared.views.app.{LentPiece.{LentPiece}, AppSide.{AppSide}}
use Rattle.plain_board.specs.{Stand.{Stand, byte_of}, Sound.{IsSound}}

-- the loan is out, or was given back or abandoned and is still owed
abbrev pub IsLent : NicSide → AppSide → LentPiece → Type 0
IsLent nic app l = Contains app.view.loans l ⊎ Contains (owed_loans l.place.buffer nic app) l

-- notes are sent one after another, and none is taken back
pub record IsFrontOfNotes (before after : List SentNote) : Type 0 where
  pub more : List SentNote
  pub parts : after ≡ before ++ more

abbrev pub LentTextsStand : Type 0
LentTextsStand =
    (old new : Stand) → IsSound old → IsSound new → (a : ℕ) (was now : AppSide) → IsApp old.apps a was → IsApp new.apps a now
    → IsFrontOfNotes (sent_to a old.nic) (sent_to a new.nic) → (l : LentPiece) → IsLent old.nic was l → IsLent new.nic now l
    → (i : ℕ) → i < l.place.len → byte_of new.arrays l.place.buffer (l.place.offset + i) ≡ byte_of old.arrays l.place.buffer (l.place.offset + i)
