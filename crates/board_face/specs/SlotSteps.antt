-- Steps at the slots of the rings, on a board of words: an end looks at the flag of its next slot, stores or loads the words behind
-- it, and hands the slot over. Handing it over is the call's event.
use Rattle.std.specs.Prelude.{ℕ, ◌%◌, Bool, true, if◌then◌else◌, List, [], ◌∷◌, ◌++◌, length, slice_index_or, slice_set, Some, None}
use Rattle.zr_kinds.specs.declared.{place.{Note.{Note}, Place.{Place}}, ring.Rqe.{Rqe}}
use Rattle.board_face.specs.{NicEvents.{nic_saw, sent, sent_linear, dealt}, AppEvents.{app_saw, took_note, took_linear, gave, pushed_raw, fell_quiet}, Opened.{unseen}}
use Rattle.board_face.specs.{Sides.{nic_at, app_at}, declared.views.{parts.Slot.{Slot}, nic.{Fate.{Fate}, Judged.TheVariants.{Not}}}}
use Rattle.board_face.specs.declared.views.{nic.{NicLook.TheVariants.{RingEmpty, NoteInUse}, NicSide.{NicSide}}, app.AppLook.TheVariants.{RefillInUse}}
use Rattle.board_face.specs.declared.views.app.AppSide.{AppSide}

-- a slot that was seen as its end needs it, and the words that were stored or loaded there since
abbrev pub seen_with : List ℕ → Slot
seen_with words = record { seen = true; words = words }

-- one word more
abbrev pub one_more : Slot → ℕ → Slot
one_more slot n = seen_with (slot.words ++ n ∷ [])

-- what the card has seen of its next slot for an application
abbrev pub next_slot : List Slot → ℕ → Slot
next_slot slots a = slice_index_or slots a unseen

-- ---- a refill ring, which the application writes

abbrev pub at_refill : AppSide → Slot → AppSide
at_refill app slot = record app { inside = record app.inside { refill_slot = slot } }

-- the application looked at its next slot, which was free or in use
abbrev pub side_refill_looked : AppSide → Bool → AppSide
side_refill_looked app free = if free then at_refill app (seen_with []) else app_at app (app_saw app.view RefillInUse)

-- It looked at any of its slots, which was free, and stays so until it publishes. Once it saw each of them free its ring is quiet.
abbrev pub side_slot_free : AppSide → ℕ → AppSide
side_slot_free app s = record app { inside = record app.inside { free_slots = s ∷ app.inside.free_slots } }

abbrev pub side_fell_quiet : AppSide → ℕ → AppSide
side_fell_quiet app s = record { view = fell_quiet app.view; inside = record app.inside { free_slots = s ∷ app.inside.free_slots } }

-- it stored a word there
abbrev pub side_refill_stored : AppSide → ℕ → AppSide
side_refill_stored app n = at_refill app (one_more app.inside.refill_slot n)

-- It handed the slot over: a loan is given back. What it saw of other slots may be so no more.
abbrev pub side_gave : AppSide → Place → AppSide
side_gave app place = record {
  view = gave app.view place;
  inside = record app.inside { refill_slot = unseen; free_slots = [] };
}

-- or a raw entry is on its way, in the slot that it keeps in mind
abbrev pub side_pushed : AppSide → Rqe → AppSide
side_pushed app entry = record {
  view = pushed_raw app.view entry;
  inside = record app.inside { refill_slot = unseen; free_slots = []; raw_slot = Some (length app.view.written % app.view.setting.places) };
}

abbrev pub at_entry : NicSide → ℕ → Slot → NicSide
at_entry nic a slot = record nic { inside = record nic.inside { refill_slots = slice_set nic.inside.refill_slots a slot } }

-- the card looked at the next slot of an application, which was full or free
abbrev pub side_entry_looked : NicSide → ℕ → Bool → NicSide
side_entry_looked nic a full = if full then at_entry nic a (seen_with []) else nic_at nic (nic_saw nic.view (RingEmpty a))

-- it loaded a word there
abbrev pub side_entry_loaded : NicSide → ℕ → ℕ → NicSide
side_entry_loaded nic a n = at_entry nic a (one_more (next_slot nic.inside.refill_slots a) n)

-- and with the last word it has the entry in hand
abbrev pub side_in_hand : NicSide → ℕ → ℕ → Rqe → NicSide
side_in_hand nic a n entry = record nic {
  inside = record nic.inside {
    refill_slots = slice_set nic.inside.refill_slots a (one_more (next_slot nic.inside.refill_slots a) n);
    entry = Some (record { app = a; entry = entry; judged = Not });
  };
}

-- It handed the slot over: the entry was dealt with.
abbrev pub side_dealt : NicSide → ℕ → Rqe → Fate → NicSide
side_dealt nic a entry fate = record {
  view = dealt nic.view a entry fate;
  inside = record nic.inside { refill_slots = slice_set nic.inside.refill_slots a unseen; entry = None };
}

-- ---- a note ring, which the card writes

abbrev pub at_note : NicSide → ℕ → Slot → NicSide
at_note nic a slot = record nic { inside = record nic.inside { note_slots = slice_set nic.inside.note_slots a slot } }

-- the card looked at the next slot for an application, which was free or in use
abbrev pub side_note_looked : NicSide → ℕ → Bool → NicSide
side_note_looked nic a free = if free then at_note nic a (seen_with []) else nic_at nic (nic_saw nic.view (NoteInUse a))

-- it stored a word there
abbrev pub side_note_stored : NicSide → ℕ → ℕ → NicSide
side_note_stored nic a n = at_note nic a (one_more (next_slot nic.inside.note_slots a) n)

-- It handed the slot over: a note was sent, with its piece, or with the bytes that travel in it.
abbrev pub side_sent : NicSide → ℕ → Note → NicSide
side_sent nic a note = record {
  view = sent nic.view a note;
  inside = record nic.inside { note_slots = slice_set nic.inside.note_slots a unseen };
}

abbrev pub side_sent_linear : NicSide → ℕ → Note → List ℕ → NicSide
side_sent_linear nic a note bytes = record {
  view = sent_linear nic.view a note bytes;
  inside = record nic.inside { note_slots = slice_set nic.inside.note_slots a unseen };
}

abbrev pub at_slot : AppSide → Slot → AppSide
at_slot app slot = record app { inside = record app.inside { note_slot = slot } }

-- the application looked at its next slot, which was full or not; that it was free tells nothing alone
abbrev pub side_slot_looked : AppSide → Bool → AppSide
side_slot_looked app full = if full then at_slot app (seen_with []) else app

-- it loaded a word there
abbrev pub side_slot_loaded : AppSide → ℕ → AppSide
side_slot_loaded app n = at_slot app (one_more app.inside.note_slot n)

-- It handed the slot over: a note was taken, and its piece is held, or its bytes had travelled in it.
abbrev pub side_took_note : AppSide → Note → AppSide
side_took_note app note = record { view = took_note app.view note; inside = record app.inside { note_slot = unseen } }

abbrev pub side_took_linear : AppSide → Note → List ℕ → AppSide
side_took_linear app note bytes = record { view = took_linear app.view note bytes; inside = record app.inside { note_slot = unseen } }
