-- Marks: which place of which note stands at each position of a flow. It is the copying receiver, over (note, place) in
-- place of bytes: notes are counted from 0 in the order in which they were taken, and a place is a byte of the note's
-- piece.
use Rattle.std.specs.Prelude.{◌≡◌, ◌≢◌, ℕ, zero, suc, ◌+◌, ◌≤◌, ◌==◌, if◌then◌else◌, List, [], ◌∷◌, ◌++◌, filter}
use Rattle.zr_kinds.specs.{Limits.{longest_payload}, declared.place.Note.{Note}}
use Rattle.zr_kinds.specs.CopyingReceiver.{Placed, nothing_placed, next_missing, lead, accepts, filled_by_values, front_of}
use Rattle.board_face.specs.declared.views.app.TakenNote.{TakenNote}

pub record Mark : Type 0 where
  pub note : ℕ
  pub place : ℕ

-- so many places of a note from one on
abbrev pub marks_from : ℕ → ℕ → ℕ → List Mark
marks_from note place zero = []
marks_from note place (suc more) = record { note = note; place = place } ∷ marks_from note (suc place) more

-- a note and which it is
pub record NumberedNote : Type 0 where
  pub number : ℕ
  pub note : Note

abbrev pub numbered_notes : ℕ → List TakenNote → List NumberedNote
numbered_notes number [] = []
numbered_notes number (t ∷ taken) = record { number = number; note = t.note } ∷ numbered_notes (suc number) taken

-- the notes of a flow
abbrev pub notes_of_flow : ℕ → List NumberedNote → List NumberedNote
notes_of_flow flow notes = filter (λ n. n.note.flow == flow) notes

abbrev pub marks_of_note : NumberedNote → List Mark
marks_of_note n = marks_from n.number 0 n.note.place.len

-- What was taken of a frame: its sequence number and length, and the marks of its pieces, in order.
pub record Frame : Type 0 where
  pub number : ℕ
  pub seq : ℕ
  pub total : ℕ
  pub marks : List Mark

abbrev pub frame_from : NumberedNote → Frame
frame_from n = record { number = n.note.frame; seq = n.note.seq; total = n.note.total; marks = marks_of_note n }

-- the frames, once this note comes before them: it belongs to the first, or begins one
abbrev pub frames_with_note : NumberedNote → List Frame → List Frame
frames_with_note n [] = frame_from n ∷ []
frames_with_note n (f ∷ fs) = if f.number == n.note.frame then record f { marks = marks_of_note n ++ f.marks } ∷ fs else frame_from n ∷ f ∷ fs

-- the frames of these notes: pieces of a frame stand together
abbrev pub frames_of_notes : List NumberedNote → List Frame
frames_of_notes [] = []
frames_of_notes (n ∷ ns) = frames_with_note n (frames_of_notes ns)

-- A frame was received, of which some pieces were taken: it is judged as a whole, and what is there enters.
abbrev pub received_frame : ℕ → Placed Mark → Frame → Placed Mark
received_frame base placed f =
    if accepts base (next_missing placed) f.seq f.total then filled_by_values placed (next_missing placed + lead base (next_missing placed) f.seq) f.marks
    else placed

abbrev pub received_frames : ℕ → Placed Mark → List Frame → Placed Mark
received_frames base placed [] = placed
received_frames base placed (f ∷ fs) = received_frames base (received_frame base placed f) fs

abbrev pub base_of : List NumberedNote → ℕ
base_of [] = 0
base_of (n ∷ ns) = n.note.base

-- what stands at each position of a flow, of the notes that were taken
abbrev pub placed_marks : ℕ → List TakenNote → Placed Mark
placed_marks flow taken = received_frames (base_of (notes_of_flow flow (numbered_notes 0 taken))) nothing_placed
    (frames_of_notes (notes_of_flow flow (numbered_notes 0 taken)))

-- the marks of a flow: positions 0 to n - 1
abbrev pub marks_of : ℕ → List TakenNote → List Mark
marks_of flow taken = front_of (placed_marks flow taken)

-- ---- the notes of which this speaks

-- both are pieces of one frame, and the second follows
pub record GoesOn (first second : Note) : Type 0 where
  pub flow : second.flow ≡ first.flow
  pub base : second.base ≡ first.base
  pub seq : second.seq ≡ first.seq
  pub total : second.total ≡ first.total
  pub at : second.at ≡ first.at + first.place.len

-- a piece that begins a frame
abbrev pub Begins : Note → Type 0
Begins note = note.at ≡ 0

-- the second goes on with the frame of the first, or begins one
pub record FollowsNote (first second : Note) : Type 0 where
  pub same : second.frame ≡ first.frame → GoesOn first second
  pub next : second.frame ≢ first.frame → Begins second

-- none of these is a piece of this frame
abbrev pub AreOfOthers : ℕ → List NumberedNote → Type 0
AreOfOthers frame [] = Unit {0}
AreOfOthers frame (n ∷ ns) = (n.note.frame ≢ frame) × AreOfOthers frame ns

-- the piece lies in its frame, which is no longer than a frame may be
pub record LiesInFrame (n : NumberedNote) : Type 0 where
  pub within : n.note.at + n.note.place.len ≤ n.note.total
  pub bounded : n.note.total ≤ longest_payload

-- All of these follow each other, from the one before them on. Once another frame begins, no piece of the one before comes.
abbrev pub AllStand : NumberedNote → List NumberedNote → Type 0
AllStand y [] = LiesInFrame y
AllStand y (n ∷ ns) = LiesInFrame y × FollowsNote y.note n.note × (n.note.frame ≢ y.note.frame → AreOfOthers y.note.frame ns) × AllStand n ns

-- The pieces of each frame stand together, in order, from its first on. A frame may lack its last pieces, and frames come in any order.
abbrev pub StandTogether : List NumberedNote → Type 0
StandTogether [] = Unit {0}
StandTogether (n ∷ ns) = (n.note.at ≡ 0) × AllStand n ns

-- as notes that are taken
abbrev pub FramesStandTogether : List TakenNote → Type 0
FramesStandTogether taken = StandTogether (numbered_notes 0 taken)
