-- Frames that notes show: the notes of a frame stand together, in order, each with the frame's fields, and show its payload.
use Rattle.std.specs.Prelude.{◌≡◌, ℕ, ◌+◌, ◌<◌, ◌≤◌, Bool, true, false, List, [], ◌∷◌, ◌++◌, length, take, drop}
use Rattle.board_face.specs.declared.views.nic.SentNote.{SentNote}
use Rattle.page_pool.specs.declared.offer.Offer.{Offer}

-- a frame that is offered, with its payload as a list
pub record Offered : Type 0 where
  pub app : ℕ
  pub frame : ℕ
  pub flow : ℕ
  pub base : ℕ
  pub seq : ℕ
  pub fin : Bool
  pub payload : List ℕ

abbrev pub offered : Offer → Offered
offered o = record { app = o.app; frame = o.frame; flow = o.flow; base = o.base; seq = o.seq; fin = o.fin; payload = o.payload.now }

-- the note tells of this frame
pub record IsNoteOf (o : Offered) (s : SentNote) : Type 0 where
  pub app : s.app ≡ o.app
  pub frame : s.note.frame ≡ o.frame
  pub flow : s.note.flow ≡ o.flow
  pub base : s.note.base ≡ o.base
  pub seq : s.note.seq ≡ o.seq
  pub total : s.note.total ≡ length o.payload
  pub fin : s.note.fin ≡ o.fin

-- a split note that shows the part of the payload that begins at this byte
pub record ShowsPart (o : Offered) (at : ℕ) (s : SentNote) : Type 0 where
  pub of_frame : IsNoteOf o s
  pub split : s.note.split ≡ true
  pub begin : s.note.at ≡ at
  pub some : 0 < s.note.place.len
  pub within : at + s.note.place.len ≤ length o.payload
  pub bytes : s.bytes ≡ take s.note.place.len (drop at o.payload)

-- split notes that show the payload from this byte on, to its end
abbrev pub ShowRest : Offered → ℕ → List SentNote → Type 0
ShowRest o at [] = at ≡ length o.payload
ShowRest o at (s ∷ ss) = ShowsPart o at s × ShowRest o (at + s.note.place.len) ss

-- one unsplit note that shows all of it
pub record ShowsWhole (o : Offered) (s : SentNote) : Type 0 where
  pub of_frame : IsNoteOf o s
  pub split : s.note.split ≡ false
  pub begin : s.note.at ≡ 0
  pub len : s.note.place.len ≡ length o.payload
  pub bytes : s.bytes ≡ o.payload

-- A payload of at most `split` bytes stands in one unsplit note, and a longer one in split notes.
pub record ShowsFrame (split : ℕ) (o : Offered) (notes : List SentNote) : Type 0 where
  pub short : length o.payload ≤ split → (s : SentNote) × (notes ≡ s ∷ []) × ShowsWhole o s
  pub long : split < length o.payload → ShowRest o 0 notes

-- frame by frame
abbrev pub ShowFrames : ℕ → List Offered → List SentNote → Type 0
ShowFrames split [] notes = notes ≡ []
ShowFrames split (o ∷ os) notes = (mine : List SentNote) × (rest : List SentNote) × (notes ≡ mine ++ rest) × ShowsFrame split o mine
    × ShowFrames split os rest
