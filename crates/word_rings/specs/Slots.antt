-- The words of a note slot and of a refill slot. The first word of each is its flag, which is 1 where the slot is full.
use Rattle.std.specs.Prelude.{◌≡◌, ℕ, zero, suc, ◌+◌, ◌-◌, ◌*◌, ◌/◌, ◌%◌, ◌^◌, ◌<◌, ◌==◌, if◌then◌else◌, List, [], ◌∷◌, length, drop, replicate, flat_map, slice_index}
use Rattle.byteorder.specs.Endian.{little_number, little_bytes}
use Rattle.zr_kinds.specs.declared.{place.Note.{Note}, ring.Rqe.{Rqe}}
use Rattle.word_rings.specs.declared.slots.TheConstants.{NOTE_FIELDS, NOTE_WORDS, PAYLOAD_BYTES, PAYLOAD_WORDS, REFILL_WORDS}

-- two numbers below 2^32 in one word, the first in the lower half
abbrev pub pair : ℕ → ℕ → ℕ
pair low high = low + 2 ^ 32 * high

abbrev pub low_of : ℕ → ℕ
low_of word = word % 2 ^ 32

abbrev pub high_of : ℕ → ℕ
high_of word = word / 2 ^ 32

-- bit 0 says that the note is split, bit 1 that its frame has FIN
abbrev pub flags_of : Note → ℕ
flags_of n = (if n.split then 1 else 0) + (if n.fin then 2 else 0)

-- so many words of these bytes, eight in each, the first in the lowest 8 bits, and 0 where there are none
abbrev pub words_of : ℕ → List ℕ → List ℕ
words_of zero bytes = []
words_of (suc more) bytes = little_number 8 bytes ∷ words_of more (drop 8 bytes)

-- how many words so many bytes take
abbrev pub words_for : ℕ → ℕ
words_for n = (n + 7) / 8

-- the bytes of these words
abbrev pub bytes_of_words : List ℕ → List ℕ
bytes_of_words words = flat_map (little_bytes 8) words

-- ---- a note slot

-- how many words it has, its flag among them,
abbrev pub note_width : ℕ
note_width = NOTE_WORDS

-- how many the flag, the fields and the area are, and without the flag; how many stand behind them for the bytes in which an unsplit
-- payload travels,
abbrev pub note_fields : ℕ
note_fields = NOTE_FIELDS

abbrev pub field_words : ℕ
field_words = note_fields - 1

abbrev pub payload_width : ℕ
payload_width = PAYLOAD_WORDS

-- and how many bytes these are
abbrev pub payload_bytes : ℕ
payload_bytes = PAYLOAD_BYTES

-- the words of a note behind the flag: fields, area, and the bytes in which an unsplit payload travels
abbrev pub note_body : Note → List ℕ → ℕ → List ℕ
note_body n linear area =
    pair n.frame n.flow ∷ pair n.base n.seq ∷ pair n.at n.total ∷ pair n.place.buffer n.place.offset ∷ pair n.place.len (flags_of n)
    ∷ area ∷ words_of payload_width linear

-- the payload's words from this one on are 0, in a note slot behind its flag
abbrev pub IsBlankFrom : ℕ → List ℕ → Type 0
IsBlankFrom n body = drop (field_words + n) body ≡ replicate (payload_width - n) 0

-- a full one
abbrev pub note_slot : Note → List ℕ → ℕ → List ℕ
note_slot n linear area = 1 ∷ note_body n linear area

-- the note of a slot
abbrev pub note_of : List ℕ → Note
note_of w = record {
  frame = low_of (slice_index w 1);
  flow = high_of (slice_index w 1);
  base = low_of (slice_index w 2);
  seq = high_of (slice_index w 2);
  at = low_of (slice_index w 3);
  total = high_of (slice_index w 3);
  place = record { buffer = low_of (slice_index w 4); offset = high_of (slice_index w 4); len = low_of (slice_index w 5) };
  split = high_of (slice_index w 5) % 2 == 1;
  fin = high_of (slice_index w 5) / 2 % 2 == 1;
}

-- the bytes of a slot behind its fields
abbrev pub linear_of : List ℕ → List ℕ
linear_of w = bytes_of_words (drop note_fields w)

-- ---- a refill slot

-- how many words it has, its flag among them
abbrev pub refill_width : ℕ
refill_width = REFILL_WORDS

-- the words of an entry behind the flag: off, and len and pad
abbrev pub entry_body : Rqe → List ℕ
entry_body e = e.off ∷ pair e.len e.pad ∷ []

-- a full one
abbrev pub refill_slot : Rqe → List ℕ
refill_slot e = 1 ∷ entry_body e

-- the entry of a slot
abbrev pub entry_of_words : List ℕ → Rqe
entry_of_words w = record { off = slice_index w 1; len = low_of (slice_index w 2); pad = high_of (slice_index w 2) }

-- a full slot with flags that a note may have
pub record IsNoteSlot (w : List ℕ) : Type 0 where
  pub full : slice_index w 0 ≡ 1
  pub flags : high_of (slice_index w 5) < 4

-- A full slot is the one of its note, its bytes and its area.
abbrev pub SlotsComeBack : Type 0
SlotsComeBack =
    (w : List ℕ) → length w ≡ note_width → ((k : ℕ) → slice_index w k < 2 ^ 64) → IsNoteSlot w
    → note_slot (note_of w) (linear_of w) (slice_index w 6) ≡ w
