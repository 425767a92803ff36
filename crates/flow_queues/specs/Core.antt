-- What the queues of flows keep, and how that stands to what a face has seen.
use Rattle.std.specs.Prelude.{◌≡◌, ℕ, ◌+◌, ◌-◌, ◌≤◌, nat_lt, nat_le, ◌==◌, ◌&&◌, ◌||◌, ◌⊎◌, ◌<◌, Bool, false, if◌then◌else◌}
use Rattle.std.specs.Prelude.{List, [], ◌∷◌, ◌++◌, length, take, drop, slice_get, Option, Some, None, MatchBool, true}
use Rattle.zr_kinds.specs.{Limits.{longest_payload}, declared.{place.Place.{Place}, ring.Completion.{Completion}}}
use Rattle.zr_kinds.specs.CopyingReceiver.{Placed, nothing_placed, next_missing, lead, accepts, filled_by_values, value_at, values_from}
use Rattle.area_layout.specs.Layout.{Shape, size_of, all_buffers as buffers_of}
use Rattle.tcp_reorder.specs.{Queue.{Queue}, Values.{Holds}}
pub use Rattle.board_face.specs.Lists.{total}
use Rattle.board_face.specs.declared.views.app.{Origin.{Origin, TheVariants.{Note as of_note, Copied as of_copy}}, HeldPiece.{HeldPiece}, LentPiece.{LentPiece}}
use Rattle.board_face.specs.{AppCalls.{IsHere}, declared.views.app.{Reading.{Reading}, TakenNote.{TakenNote}, AppView.{AppView}}}
use Rattle.flow_queues.specs.declared.queues.{NotePiece.{NotePiece}, Short.{Short}, Waiting.{Waiting, TheVariants.{InArea, Copied}}, Lending.{Lending}}
use Rattle.flow_queues.specs.{declared.queues.FlowQueue.{FlowQueue}, Marks.{Mark, marks_from, NumberedNote, numbered_notes, notes_of_flow, marks_of_note}}

-- ---- of lists, by recursion, so that it computes

-- each of these
abbrev pub Each : {A : Type 0} → (A → Type 0) → List A → Type 0
Each P [] = Unit {0}
Each P (x ∷ xs) = P x × Each P xs

-- x is one of these
abbrev pub IsIn : {A : Type 0} → A → List A → Type 0
IsIn x [] = ⊥
IsIn x (y ∷ ys) = (y ≡ x) ⊎ IsIn x ys

-- ---- places

-- 1 where the place has this byte of this buffer
abbrev pub has_at : ℕ → ℕ → Place → ℕ
has_at b x p = if (p.buffer == b) && (nat_le p.offset x && nat_lt x (p.offset + p.len)) then 1 else 0

-- the place doesn't lie in one buffer of the area
abbrev pub lies_out : Shape → Place → Bool
lies_out layout p = nat_le (buffers_of layout) p.buffer || nat_lt (size_of layout p.buffer) (p.offset + p.len)

-- 1 where the place has no byte, or more than a frame, or doesn't lie in one buffer
abbrev pub is_odd : Shape → Place → ℕ
is_odd layout p = if (p.len == 0) || (nat_lt longest_payload p.len || lies_out layout p) then 1 else 0

-- Each byte of a buffer lies in one piece or loan at most, and each of these has bytes in one buffer, no more than a payload
-- may have.
pub record LieApart (v : AppView) : Type 0 where
  pub once : (b x : ℕ) → total (λ h. has_at b x h.place) v.helds + total (λ l. has_at b x l.place) v.loans ≤ 1
  pub some : total (λ h. is_odd v.setting.layout h.place) v.helds + total (λ l. is_odd v.setting.layout l.place) v.loans ≡ 0

-- it hasn't left, and what it holds lies apart
pub record HoldsApart (v : AppView) : Type 0 where
  pub here : IsHere v
  pub apart : LieApart v

-- ---- tokens

-- what the face knows of a piece, and of a loan
abbrev pub held_piece : NotePiece → HeldPiece
held_piece p = record { place = p.held; origin = of_note p.note p.at }

-- where the bytes of a loan come from: so many of a note, from one of them on. They are those of the note's piece, or
-- a copy of those that came with the note
abbrev pub origin_in : Option TakenNote → ℕ → ℕ → ℕ → Origin
origin_in None note at len = of_note note at
origin_in (Some t) note at len = if t.note.split then of_note note at else of_copy (take len (drop at t.bytes))

abbrev pub lent_piece : List TakenNote → Lending → LentPiece
lent_piece taken l = record { place = l.loan; origin = origin_in (slice_get taken l.note) l.note l.at l.loan.len }

-- 1 where the loan is a copy
abbrev pub one_copy : Origin → ℕ
one_copy (of_note note at) = 0
one_copy (of_copy bytes) = 1

abbrev pub is_copy : LentPiece → ℕ
is_copy l = one_copy l.origin

-- the loan is one of a note that was taken: of a part of its piece, or of a copy of bytes that came with it
pub record IsOfTaken (taken : List TakenNote) (l : LentPiece) : Type 0 where
  pub lending : Lending
  pub known : lending.note < length taken
  pub is : l ≡ lent_piece taken lending

-- over the pieces in the area that a queue keeps
abbrev pub over_waiting : (HeldPiece → ℕ) → Waiting → ℕ
over_waiting f (InArea p) = f (held_piece p)
over_waiting f (Copied s) = 0

abbrev pub over_kept : (HeldPiece → ℕ) → Queue Waiting → ℕ
over_kept f queue = total (λ k. over_waiting f k.piece) queue.kept

-- how many bytes a queue keeps in memory of their own
abbrev pub short_len : Waiting → ℕ
short_len (InArea p) = 0
short_len (Copied s) = length s.bytes.items

abbrev pub short_bytes : Queue Waiting → ℕ
short_bytes queue = total (λ k. short_len k.piece) queue.kept

-- how many bytes came with the note
abbrev pub unsplit_len : TakenNote → ℕ
unsplit_len t = if t.note.split then 0 else t.note.total

abbrev pub held_len : HeldPiece → ℕ
held_len h = h.place.len

-- the place of what waits, and that of a loan, by their marks
abbrev pub marks_of_piece : NotePiece → List Mark
marks_of_piece p = marks_from p.note p.at p.held.len

abbrev pub marks_of_waiting : Waiting → List Mark
marks_of_waiting (InArea p) = marks_of_piece p
marks_of_waiting (Copied s) = marks_from s.note s.at (length s.bytes.items)

abbrev pub marks_of_loan : Lending → List Mark
marks_of_loan l = marks_from l.note l.at l.loan.len

-- ---- the notes of what waits

-- a piece in the area is of a note that tells of one
pub record IsInArea (taken : List TakenNote) (p : NotePiece) : Type 0 where
  pub note : TakenNote
  pub is : slice_get taken p.note ≡ Some note
  pub split : note.note.split ≡ true

-- these bytes came with their note, at their place in it
pub record IsShort (taken : List TakenNote) (s : Short) : Type 0 where
  pub note : TakenNote
  pub is : slice_get taken s.note ≡ Some note
  pub split : note.note.split ≡ false
  pub bytes : s.bytes.items ≡ take (length s.bytes.items) (drop s.at note.bytes)
  pub few : length s.bytes.items ≤ 256

abbrev pub IsOfNote : List TakenNote → Waiting → Type 0
IsOfNote taken (InArea p) = IsInArea taken p
IsOfNote taken (Copied s) = IsShort taken s

-- ---- what a flow received, each piece judged for itself

abbrev pub received_note : ℕ → Placed Mark → NumberedNote → Placed Mark
received_note base placed n =
    if accepts base (next_missing placed) n.note.seq n.note.total
    then filled_by_values placed (next_missing placed + lead base (next_missing placed) n.note.seq + n.note.at) (marks_of_note n)
    else placed

abbrev pub received_notes : ℕ → Placed Mark → List NumberedNote → Placed Mark
received_notes base placed [] = placed
received_notes base placed (n ∷ ns) = received_notes base (received_note base placed n) ns

-- the notes of a flow among those that were taken
abbrev pub own_notes : ℕ → List TakenNote → List NumberedNote
own_notes flow taken = notes_of_flow flow (numbered_notes 0 taken)

-- ---- between two turns

-- the first of these has this base
abbrev pub BeginAt : ℕ → List NumberedNote → Type 0
BeginAt base [] = ⊥
BeginAt base (n ∷ ns) = n.note.base ≡ base

-- the marks of the loans of a flow, from the oldest on
abbrev pub lent_marks : ℕ → List (Completion × Lending) → List Mark
lent_marks flow [] = []
lent_marks flow (p ∷ ps) = (if p.0.user_data == flow then marks_of_loan p.1 else []) ++ lent_marks flow ps

-- what a flow received, with the base of its queue
abbrev pub placed_of : FlowQueue → List TakenNote → Placed Mark
placed_of flow taken = received_notes flow.queue.base nothing_placed (own_notes flow.number taken)

-- The queue has what was received. What is done with, what was lent and waits to be read, and what the queue keeps follow each
-- other.
pub record FlowStands (taken : List TakenNote) (posted : List (Completion × Lending)) (flow : FlowQueue) : Type 0 where
  pub begun : BeginAt flow.queue.base (own_notes flow.number taken)
  pub holds : Holds marks_of_waiting flow.queue (placed_of flow taken)
  pub notes : Each (λ k. IsOfNote taken k.piece) flow.queue.kept
  pub counted : flow.bytes ≤ flow.queue.popped
  pub lent : lent_marks flow.number posted ≡ values_from (placed_of flow taken).at (flow.queue.popped - flow.bytes) flow.bytes

-- how many flows have this number
abbrev pub many : ℕ → List FlowQueue → ℕ
many number flows = total (λ f. if f.number == number then 1 else 0) flows

abbrev pub over_due : List TakenNote → (LentPiece → ℕ) → Option Lending → ℕ
over_due taken f None = 0
over_due taken f (Some l) = f (lent_piece taken l)

-- these loans, and before them one more, if there is one
abbrev pub read_out : Option Lending → List Lending → List Lending
read_out None others = others
read_out (Some l) others = l ∷ others

abbrev pub over_read : List TakenNote → (LentPiece → ℕ) → List Lending → ℕ
over_read taken f read = total (λ l. f (lent_piece taken l)) read

-- The tokens that are out are those that are kept: pieces by the queues, and loans, those that wait to be read, each with what
-- tells of it, and those that were read.
pub record HasTokens (flows : List FlowQueue) (posted : List (Completion × Lending)) (read : List Lending) (v : AppView) : Type 0 where
  pub apart : LieApart v
  pub helds : (f : HeldPiece → ℕ) → total f v.helds ≡ total (λ flow. over_kept f flow.queue) flows
  pub loans : (f : LentPiece → ℕ) → total f v.loans ≡ total (λ p. f (lent_piece v.taken p.1)) posted + over_read v.taken f read

pub record Stands (count : ℕ) (own : List FlowQueue) (ring : List (Completion × Lending)) (read : List Lending) (v : AppView) : Type 0 where
  pub tokens : HasTokens own ring read v
  pub notes : count ≡ length v.taken
  pub distinct : (number : ℕ) → many number own ≤ 1
  pub flows : Each (FlowStands v.taken ring) own
  -- a flow that has no queue has no note
  pub known : (number : ℕ) → many number own ≡ 0 → own_notes number v.taken ≡ []
  -- and each completion is of a flow that has one
  pub posted : Each (λ p. many p.0.user_data own ≡ 1) ring
  -- each loan is of a note that was taken
  pub lent : Each (λ p. p.1.note < length v.taken) ring
  pub due_lent : Each (λ l. l.note < length v.taken) read
  pub counted : v.scrubbed ≡ false

-- ---- what was read

-- a byte of a split piece was read through a loan of its note
pub record IsReadAt (reads : List Reading) (mark : Mark) (byte : ℕ) : Type 0 where
  pub reading : Reading
  pub read : IsIn reading reads
  pub from : ℕ
  pub origin : reading.origin ≡ of_note mark.note from
  pub at_or_behind : from ≤ mark.place
  pub is : value_at reading.bytes (mark.place - from) ≡ Some byte

-- the byte at a mark: of a note that tells of a piece in the area, one that was read through a loan of it, and of another
-- the one that came with it
pub record IsByteAt (taken : List TakenNote) (reads : List Reading) (mark : Mark) (byte : ℕ) : Type 0 where
  pub note : TakenNote
  pub is : slice_get taken mark.note ≡ Some note
  pub stands : MatchBool note.note.split (IsReadAt reads mark byte) (value_at note.bytes mark.place ≡ Some byte)

-- these are the bytes at these marks, one at each
abbrev pub AreReadAt : List TakenNote → List Reading → List Mark → List ℕ → Type 0
AreReadAt taken reads [] [] = Unit {0}
AreReadAt taken reads (m ∷ ms) (b ∷ bs) = IsByteAt taken reads m b × AreReadAt taken reads ms bs
AreReadAt taken reads [] (b ∷ bs) = ⊥
AreReadAt taken reads (m ∷ ms) [] = ⊥

-- nothing changed but for reads, and none of these is lost
pub record OnlyReads (old new : AppView) : Type 0 where
  pub view : new ≡ record old { reads = new.reads }
  pub more : List Reading
  pub are : new.reads ≡ old.reads ++ more

-- how many bytes are read and appended at once, at most
abbrev pub most_at_once : ℕ
most_at_once = 4096

-- the first bytes of a loan were read, from so many on and at most so many
pub record IsReadOf (taken : List TakenNote) (reads : List Reading) (lending : Lending) (done most : ℕ) (bytes : List ℕ) : Type 0 where
  pub are : AreReadAt taken reads (marks_from lending.note lending.at (length bytes)) bytes
  pub at_least : done ≤ length bytes
  pub at_most : length bytes ≤ most
  pub at_once : length bytes ≤ done + most_at_once
