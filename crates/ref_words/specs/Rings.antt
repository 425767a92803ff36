-- Rings of slots. A slot is a list of words of which the first is the flag, 1 where the slot is full. The writer and the reader use
-- the slots in turn; what either has seen of its next slot is so until it goes on.
use Rattle.std.specs.Prelude.{◌≡◌, ℕ, ◌+◌, ◌%◌, ◌^◌, ◌<◌, ◌≤◌, true, false, if◌then◌else◌, List, [], ◌∷◌, ◌++◌, length, map, replicate}
use Rattle.std.specs.Prelude.{min, take, drop, slice_index, slice_index_or, All, Option, Some, None}
use Rattle.zr_kinds.specs.declared.place.Note.{Note}
use Rattle.area_layout.specs.Layout.{area_of_buffer}
use Rattle.board_face.specs.{SlotSteps.{next_slot}, Holders.{sent_to}, Relay.{dealt_entries}, Returns.{IsOfLoan}, declared.views.parts.{Setting.{Setting}, Slot.{Slot}}}
use Rattle.board_face.specs.declared.views.{nic.{NicSide.{NicSide}, SentNote.{SentNote}}, app.{WrittenEntry.{WrittenEntry}, AppSide.{AppSide}}}
use Rattle.word_rings.specs.Slots.{note_width, note_fields, note_body, note_of, linear_of, refill_width, entry_body, words_for}
use Rattle.ref_words.specs.Words.{Words}

-- the slot of what was written as the k-th, counted from 0
abbrev pub slot_of : ℕ → List (List ℕ) → ℕ → List ℕ
slot_of places slots k = slice_index_or slots (k % places) []

-- the words of a slot behind its flag, as far as an end has stored or loaded them
abbrev pub IsSoFar : List ℕ → List ℕ → Type 0
IsSoFar slot words = take (length words) (drop 1 slot) ≡ words

-- One ring: the words that lie in the slots are those of what was written and not yet taken, in order.
module _ {X : Type 0} (width : ℕ) (words_of : X → List ℕ) where
  pub record IsRing (places : ℕ) (slots : List (List ℕ)) (written : List X) (taken : ℕ) (writer reader : Slot) : Type 0 where
    pub some : 0 < places
    pub many : length slots ≡ places
    pub wide : (k : ℕ) → length (slot_of places slots k) ≡ width
    pub order : taken ≤ length written
    pub room : length written ≤ taken + places
    pub full : (k : ℕ) (d : X) → taken ≤ k → k < length written → slot_of places slots k ≡ 1 ∷ words_of (slice_index_or written k d)
    pub free : (k : ℕ) → length written ≤ k → k < taken + places → slice_index (slot_of places slots k) 0 ≡ 0
    pub writer_seen : writer.seen ≡ true → length written < taken + places
    pub writer_words : writer.seen ≡ true → IsSoFar (slot_of places slots (length written)) writer.words
    pub reader_seen : reader.seen ≡ true → taken < length written
    pub reader_words : reader.seen ≡ true → IsSoFar (slot_of places slots taken) reader.words

  -- what the slot of the k-th has behind its flag before that is written: what was written there a turn before, or zeros
  abbrev pub left_for : ℕ → List X → ℕ → List ℕ
  left_for places written k = slice_index_or (replicate places (drop 1 (replicate width 0)) ++ map words_of written) k []

  -- The slots that aren't full have that behind their flags, but for the words that the writer has stored in the next one.
  pub record AreLeft (places : ℕ) (slots : List (List ℕ)) (written : List X) (taken : ℕ) (writer : Slot) : Type 0 where
    pub next : length written < taken + places
        → drop (length writer.words) (drop 1 (slot_of places slots (length written)))
        ≡ drop (length writer.words) (left_for places written (length written))
    pub others : (k : ℕ) → length written < k → k < taken + places → drop 1 (slot_of places slots k) ≡ left_for places written k

-- ---- refill rings

-- the words of an entry that was written
abbrev pub words_of_entry : WrittenEntry → List ℕ
words_of_entry w = entry_body w.entry

-- a slot of the ring that is free
pub record IsFreeSlot (places : ℕ) (slots : List (List ℕ)) (s : ℕ) : Type 0 where
  pub within : s < places
  pub flag : slice_index (slice_index_or slots s []) 0 ≡ 0

-- the last entry that came from no loan was written into this slot
pub record IsLastRaw (places : ℕ) (written : List WrittenEntry) (s : ℕ) : Type 0 where
  pub before : List WrittenEntry
  pub entry : WrittenEntry
  pub behind : List WrittenEntry
  pub is : written ≡ before ++ entry ∷ behind
  pub raw : entry.of_loan ≡ false
  pub others : All IsOfLoan behind
  pub slot : s ≡ length before % places

-- A ring of refill entries: those that were written and not yet taken lie in the slots. The slots that the writer has seen free since
-- it last published are so, and it knows the slot of its last raw entry, where it wrote one.
pub record IsRefillRing (places : ℕ) (slots : List (List ℕ)) (written : List WrittenEntry) (taken : ℕ) (writer reader : Slot) (free : List ℕ)
    (raw : Option ℕ) : Type 0 where
  pub ring : IsRing refill_width words_of_entry places slots written taken writer reader
  pub free_slots : All (IsFreeSlot places slots) free
  pub raw_slot : (s : ℕ) → raw ≡ Some s → IsLastRaw places written s
  pub none_raw : raw ≡ None → All IsOfLoan written

-- An application's refill ring: the entries that the card hasn't dealt with lie in the slots.
abbrev pub AreRefills : Setting → Words → NicSide → AppSide → Type 0
AreRefills setting words nic app =
    IsRefillRing setting.places (slice_index_or words.refills app.view.app []) app.view.written (length (dealt_entries app.view.app nic))
    app.inside.refill_slot (next_slot nic.inside.refill_slots app.view.app) app.inside.free_slots app.inside.raw_slot

-- ---- note rings

-- the bytes that travel in a note that was sent
abbrev pub linear_bytes : SentNote → List ℕ
linear_bytes s = if s.note.split then [] else s.bytes

-- the area in which its piece lies; an unsplit note names area 0
abbrev pub area_of_note : Setting → Note → ℕ
area_of_note setting note = if note.split then area_of_buffer setting.layout note.place.buffer else 0

-- the words of such a note
abbrev pub words_of_note : Setting → SentNote → List ℕ
words_of_note setting s = note_body s.note (linear_bytes s) (area_of_note setting s.note)

-- An application's note ring: the notes that it hasn't taken lie in the slots.
abbrev pub AreNotes : Setting → Words → NicSide → AppSide → Type 0
AreNotes setting words nic app =
    IsRing note_width (words_of_note setting) setting.places (slice_index_or words.notes app.view.app []) (sent_to app.view.app nic)
    (length app.view.taken) (next_slot nic.inside.note_slots app.view.app) app.inside.note_slot

-- and the slots that aren't full have the words of the notes that were there before
abbrev pub AreLeftOfNotes : Setting → Words → NicSide → AppSide → Type 0
AreLeftOfNotes setting words nic app =
    AreLeft note_width (words_of_note setting) setting.places (slice_index_or words.notes app.view.app []) (sent_to app.view.app nic)
    (length app.view.taken) (next_slot nic.inside.note_slots app.view.app)

-- what is left in the card's next note slot to an application
abbrev pub left_in_note : Setting → NicSide → ℕ → List ℕ
left_in_note setting nic a = left_for note_width (words_of_note setting) setting.places (sent_to a nic) (length (sent_to a nic))

-- what that slot has behind its flag: the words that the card has stored there, and then those that are left
abbrev pub note_so_far : Setting → NicSide → ℕ → List ℕ
note_so_far setting nic a =
    let stored = (next_slot nic.inside.note_slots a).words in
    stored ++ drop (length stored) (left_in_note setting nic a)

-- both rings of an application
pub record AreRings (setting : Setting) (words : Words) (nic : NicSide) (app : AppSide) : Type 0 where
  pub refills : AreRefills setting words nic app
  pub notes : AreNotes setting words nic app
  pub left : AreLeftOfNotes setting words nic app

-- ---- which slot is next

-- the slot into which an application writes its next entry, and the one from which the card takes an entry
abbrev pub writes_entry_at : Setting → AppSide → ℕ
writes_entry_at setting app = length app.view.written % setting.places

abbrev pub takes_entry_at : Setting → NicSide → ℕ → ℕ
takes_entry_at setting nic a = length (dealt_entries a nic) % setting.places

-- the slot into which the card writes its next note to an application, and the one from which that takes a note
abbrev pub writes_note_at : Setting → NicSide → ℕ → ℕ
writes_note_at setting nic a = length (sent_to a nic) % setting.places

abbrev pub takes_note_at : Setting → AppSide → ℕ
takes_note_at setting app = length app.view.taken % setting.places

-- ---- fields, which are numbers of as many bits as their parts of words have

pub record EntryFits (w : WrittenEntry) : Type 0 where
  pub off : w.entry.off < 2 ^ 64
  pub len : w.entry.len < 2 ^ 32
  pub pad : w.entry.pad < 2 ^ 32

pub record NoteFits (s : SentNote) : Type 0 where
  pub frame : s.note.frame < 2 ^ 32
  pub flow : s.note.flow < 2 ^ 32
  pub base : s.note.base < 2 ^ 32
  pub seq : s.note.seq < 2 ^ 32
  pub at : s.note.at < 2 ^ 32
  pub total : s.note.total < 2 ^ 32
  pub buffer : s.note.place.buffer < 2 ^ 32
  pub offset : s.note.place.offset < 2 ^ 32
  pub len : s.note.place.len < 2 ^ 32
  pub bytes : s.note.split ≡ false → All (λ byte. byte < 256) s.bytes

-- ---- the next slot of an end

-- how many words of its next slot a card has loaded or stored, the flag among them
abbrev pub refill_words_at : NicSide → ℕ → ℕ
refill_words_at nic a = 1 + length (next_slot nic.inside.refill_slots a).words

abbrev pub note_words_at : NicSide → ℕ → ℕ
note_words_at nic a = 1 + length (next_slot nic.inside.note_slots a).words

-- the note that the words tell of which an application has loaded from its next slot
abbrev pub loaded_note : AppSide → Note
loaded_note app = note_of (1 ∷ app.inside.note_slot.words)

-- the bytes that they tell of
abbrev pub loaded_bytes : AppSide → List ℕ
loaded_bytes app = take (loaded_note app).total (linear_of (1 ∷ app.inside.note_slot.words))

-- how many words it loads of a note's slot at least, the flag among them: those of the fields, and of an unsplit note those of its
-- bytes
abbrev pub note_loads : Note → ℕ
note_loads note = if note.split then note_fields else min note_width (note_fields + words_for note.total)
