-- What a note does to the queues.
use Rattle.std.specs.Prelude.{◌≡◌, ℕ, ◌+◌, ◌<◌, ◌≤◌, ◌⊎◌, true, false, List, length, Some, slice_get, slice_index_or, slice_set}
use Rattle.zr_kinds.specs.{declared.place.{Note.{Note}, Place.{Place}}, CopyingReceiver.{Placed}}
use Rattle.tcp_reorder.specs.{Queue.{Queue}, Values.{Holds}}
use Rattle.board_face.specs.{AppEvents.{released}, declared.views.app.{HeldPiece.{HeldPiece}, TakenNote.{TakenNote}, AppView.{AppView}}}
use Rattle.flow_queues.specs.{declared.queues.{NotePiece.{NotePiece}, Waiting.{Waiting}, FlowQueue.{FlowQueue}}, Marks.{Mark, NumberedNote}}
use Rattle.flow_queues.specs.Core.{total, held_piece, over_kept, held_len, short_bytes, marks_of_waiting, received_note, IsOfNote, Each}
use Rattle.flow_queues.specs.{Pieces.{OnlyHelds, whole_piece}, Flows.{IsIndex, IsChosen}}

-- The queue of the note's flow, made where there was none, stands at this place and keeps something else now. No other changed.
pub record ChangesQueue (was now : List FlowQueue) (index : List (ℕ × ℕ)) (note : Note) (i : ℕ) : Type 0 where
  pub flows : List FlowQueue
  pub chosen : IsChosen was flows note i
  pub within : i < length flows
  pub index_is : IsIndex index flows
  pub own : FlowQueue
  pub there : own ≡ slice_index_or flows i own
  pub queue : Queue Waiting
  pub is : now ≡ slice_set flows i (record own { queue = queue })
  pub base : queue.base ≡ own.queue.base
  pub popped : queue.popped ≡ own.queue.popped

-- The queue holds what the copying receiver has once the note came, and what it keeps is of notes, where this one is such a note.
pub record Receives (was now : Queue Waiting) (n : NumberedNote) (IsSuch : TakenNote → Type 0) : Type 0 where
  pub enters : (placed : Placed Mark) → Holds marks_of_waiting was placed → Holds marks_of_waiting now (received_note was.base placed n)
  pub notes : (taken : List TakenNote) (t : TakenNote) → slice_get taken n.number ≡ Some t → IsSuch t
      → Each (λ k. IsOfNote taken k.piece) was.kept → Each (λ k. IsOfNote taken k.piece) now.kept

-- ---- a piece

-- some of the piece entered, and the rest was given up
pub record EntersPiece (old new : AppView) (was now : Queue Waiting) (piece : NotePiece) : Type 0 where
  pub only : OnlyHelds old new (λ f. f (held_piece piece) + over_kept f was) (λ f. over_kept f now)
  pub fewer : total held_len new.helds ≤ total held_len old.helds
  pub short : short_bytes now ≡ short_bytes was

pub record TakesPiece (old new : AppView) (was now : List FlowQueue) (index : List (ℕ × ℕ)) (note : Note) (number : ℕ) (held : Place) (i : ℕ) : Type 0 where
  pub change : ChangesQueue was now index note i
  pub some : EntersPiece old new change.own.queue change.queue (whole_piece number held)
  pub all : Receives change.own.queue change.queue (record { number = number; note = note }) (λ t. t.note.split ≡ true)

-- a part of it entered at most
pub record LosesSome (old new : AppView) (was now : List FlowQueue) (index : List (ℕ × ℕ)) (note : Note) (number : ℕ) (held : Place) : Type 0 where
  pub place : ℕ
  pub change : ChangesQueue was now index note place
  pub some : EntersPiece old new change.own.queue change.queue (whole_piece number held)

abbrev pub LosesPiece : AppView → AppView → List FlowQueue → List FlowQueue → List (ℕ × ℕ) → List (ℕ × ℕ) → Note → ℕ → Place → Type 0
LosesPiece old new was now index_was index note number held =
    ((now ≡ was) × (index ≡ index_was) × (new ≡ released old held)) ⊎ LosesSome old new was now index note number held

-- ---- a payload

-- some of it entered
pub record EntersPayload (was now : Queue Waiting) (note : Note) : Type 0 where
  pub over : (f : HeldPiece → ℕ) → over_kept f now ≡ over_kept f was
  pub short : short_bytes now ≤ short_bytes was + note.total

pub record TakesPayload (was now : List FlowQueue) (index : List (ℕ × ℕ)) (note : Note) (number : ℕ) (payload : List ℕ) (i : ℕ) : Type 0 where
  pub change : ChangesQueue was now index note i
  pub some : EntersPayload change.own.queue change.queue note
  pub all : Receives change.own.queue change.queue (record { number = number; note = note }) (λ t. (t.note.split ≡ false) × (t.bytes ≡ payload))

pub record LosesSomePayload (was now : List FlowQueue) (index : List (ℕ × ℕ)) (note : Note) : Type 0 where
  pub place : ℕ
  pub change : ChangesQueue was now index note place
  pub some : EntersPayload change.own.queue change.queue note

abbrev pub LosesPayload : List FlowQueue → List FlowQueue → List (ℕ × ℕ) → List (ℕ × ℕ) → Note → Type 0
LosesPayload was now index_was index note = ((now ≡ was) × (index ≡ index_was)) ⊎ LosesSomePayload was now index note
