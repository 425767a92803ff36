-- Shown text. Each piece whose placing is complete, each sent, held and lent piece, each filled spare, and each loan that
-- was given back or abandoned and is still owed, has a place and a text, and the area has the text at the place.
use Rattle.std.specs.Prelude.{◌≡◌, ℕ, ◌+◌, ◌<◌, ◌==◌, true, List, [], ◌∷◌, length, filter, take, drop, slice_index, All}
use Rattle.zr_kinds.specs.declared.place.Place.{Place}
use Rattle.board_face.specs.{AppEvents.{begin_place}, Holders.{sent_to, on_way, ended_in}, Places.{ArePlaced}, declared.views.nic.SentNote.{SentNote}}
use Rattle.board_face.specs.declared.views.{nic.NicSide.{NicSide}, app.{Origin.{Origin, TheVariants.{Note as of_note, Copied as of_copy}}, LentPiece.{LentPiece}}}
use Rattle.board_face.specs.declared.views.app.AppSide.{AppSide}

-- The area, whose bytes `byte` gives by buffer and offset, has the text at the place.
pub record IsShown (byte : ℕ → ℕ → ℕ) (place : Place) (text : List ℕ) : Type 0 where
  pub len : length text ≡ place.len
  pub bytes : (i : ℕ) → i < place.len → byte place.buffer (place.offset + i) ≡ slice_index text i

-- the bytes of the first note
abbrev pub first_bytes : List SentNote → List ℕ
first_bytes [] = []
first_bytes (s ∷ rest) = s.bytes

-- the bytes of the note that was sent to an application as this one, counted from 0
abbrev pub bytes_sent : ℕ → List SentNote → List ℕ
bytes_sent k notes = first_bytes (drop k notes)

-- so many bytes from their origin on
abbrev pub origin_bytes : List SentNote → Origin → ℕ → List ℕ
origin_bytes notes (of_note k at) n = take n (drop at (bytes_sent k notes))
origin_bytes notes (of_copy bytes) n = take n bytes

-- the text of a piece that an application holds or has on loan
abbrev pub text_of : NicSide → AppSide → Origin → Place → List ℕ
text_of nic app origin place = origin_bytes (sent_to app.view.app nic) origin place.len

-- the loans in a buffer that were given back or abandoned and are still owed
abbrev pub owed_loans : ℕ → NicSide → AppSide → List LentPiece
owed_loans b nic app = drop (ended_in b nic app) (filter (λ l. l.place.buffer == b) app.view.returned)

-- The card's texts are shown,
pub record CardIsShown (byte : ℕ → ℕ → ℕ) (nic : NicSide) : Type 0 where
  pub pieces : All (λ p. IsShown byte p.place p.bytes) nic.view.pieces

-- and those of an application, with the pieces on their way to it.
pub record AppIsShown (byte : ℕ → ℕ → ℕ) (nic : NicSide) (app : AppSide) : Type 0 where
  pub sent : All (λ s. s.note.split ≡ true → IsShown byte s.note.place s.bytes) (on_way nic app)
  pub helds : All (λ h. IsShown byte h.place (text_of nic app h.origin h.place)) app.view.helds
  pub spares : All (λ s. IsShown byte (begin_place s.own.buffer (length s.bytes)) s.bytes) app.view.owns
  pub loans : All (λ l. IsShown byte l.place (text_of nic app l.origin l.place)) app.view.loans
  pub owed : (b : ℕ) → All (λ l. IsShown byte l.place (text_of nic app l.origin l.place)) (owed_loans b nic app)

pub record AreShown (byte : ℕ → ℕ → ℕ) (nic : NicSide) (sides : List AppSide) : Type 0 where
  pub card : CardIsShown byte nic
  pub apps : All (AppIsShown byte nic) sides
  pub places : (b : ℕ) → ArePlaced b nic sides
