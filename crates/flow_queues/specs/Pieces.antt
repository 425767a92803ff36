-- Pieces that wait are cut, and given up.
use Rattle.std.specs.Prelude.{◌≡◌, ℕ, ◌+◌, ◌<◌, List, [], map, Option, Some, None}
use Rattle.zr_kinds.specs.declared.place.{Note.{Note}, Place.{Place}}
use Rattle.board_face.specs.{Texts.{IsSplitNote, front_place, rest_place}, declared.views.app.{HeldPiece.{HeldPiece}, AppView.{AppView}}, AppEvents.{released}}
use Rattle.flow_queues.specs.{Flows.{facts_of}, declared.queues.{FlowQueue.{FlowQueue}, NotePiece.{NotePiece}, Waiting.{Waiting, TheVariants.{InArea, Copied}}}, Core.{total, IsIn, HoldsApart, LieApart, held_piece, short_bytes}}

-- the first bytes of a piece, and the others
abbrev pub front_of_piece : NotePiece → ℕ → NotePiece
front_of_piece p n = record p { held = front_place p.held n }

abbrev pub rest_of_piece : NotePiece → ℕ → NotePiece
rest_of_piece p n = record { note = p.note; at = p.at + n; held = rest_place p.held n }

-- Held pieces changed, and nothing else: `gone` went from the face's side to where it was counted, f by f.
pub record OnlyHelds (old new : AppView) (gone come : (HeldPiece → ℕ) → ℕ) : Type 0 where
  pub view : new ≡ record old { helds = new.helds }
  pub apart : LieApart new
  pub moved : (f : HeldPiece → ℕ) → total f new.helds + gone f ≡ total f old.helds + come f

-- the first bytes of a piece were given up
pub record GaveFront (old new : AppView) (piece : NotePiece) (n : ℕ) (result : NotePiece) : Type 0 where
  pub only : OnlyHelds old new (λ f. f (held_piece piece)) (λ f. f (held_piece result))
  pub rest : result ≡ rest_of_piece piece n
  pub out : IsIn (held_piece result) new.helds

-- the others, if there are any
abbrev pub Others : AppView → NotePiece → ℕ → Option NotePiece → Type 0
Others v piece n None = n ≡ piece.held.len
Others v piece n (Some rest) = (n < piece.held.len) × (rest ≡ rest_of_piece piece n) × IsIn (held_piece rest) v.helds

abbrev pub over_others : (HeldPiece → ℕ) → Option NotePiece → ℕ
over_others f None = 0
over_others f (Some rest) = f (held_piece rest)

-- the first bytes of a piece were taken off
pub record CutFirst (old new : AppView) (piece : NotePiece) (n : ℕ) (first : NotePiece) (others : Option NotePiece) : Type 0 where
  pub only : OnlyHelds old new (λ f. f (held_piece piece)) (λ f. f (held_piece first) + over_others f others)
  pub front : first ≡ front_of_piece piece n
  pub out : IsIn (held_piece first) new.helds
  pub rest : Others new piece n others

-- ---- what was to wait

-- it is out, where it lies in the area
abbrev pub IsOut : AppView → Waiting → Type 0
IsOut v (InArea p) = IsIn (held_piece p) v.helds
IsOut v (Copied s) = Unit {0}

abbrev pub given_back : AppView → Waiting → AppView
given_back v (InArea p) = released v p.held
given_back v (Copied s) = v

-- a whole piece
abbrev pub whole_piece : ℕ → Place → NotePiece
whole_piece number place = record { note = number; at = 0; held = place }

-- the piece is that of which the note with this number tells, and it is out, of an application that goes on
pub record CameWith (v : AppView) (note : Note) (number : ℕ) (held : Place) : Type 0 where
  pub holds : HoldsApart v
  pub fields : IsSplitNote note
  pub place : held ≡ note.place
  pub out : IsIn (held_piece (whole_piece number held)) v.helds

-- all pieces were given up, and the flows stay known
pub record AllReleased (old new : AppView) (was now : List FlowQueue) : Type 0 where
  pub view : new ≡ record old { helds = [] }
  pub facts : map facts_of now ≡ map facts_of was
  pub short : total (λ f. short_bytes f.queue) now ≡ 0
