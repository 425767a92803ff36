-- What a role has at hand before a step, or between the steps of a call: the slot at which it goes on with a ring, an entry, no free
-- buffer, a search that it may begin, a scrub.
use Rattle.std.specs.Prelude.{◌≡◌, ℕ, ◌<◌, ◌≤◌, true, false, List, [], Some, None, slice_index}
use Rattle.zr_kinds.specs.declared.ring.Rqe.{Rqe}
use Rattle.area_layout.specs.Layout.{IsLayout, all_buffers}
use Rattle.board_face.specs.{NicCalls.{apps_of, DealtWith}, AppCalls.{CanScrub, MaySpare, NamesNoLoan}, AppEvents.{reserve_of}, SlotSteps.{next_slot}, Used.{PicksAreGiven}}
use Rattle.board_face.specs.declared.{answers.Entry.{Entry}, views.{nic.{Judged.{Judged}, SentNote.{SentNote}}, app.WrittenEntry.{WrittenEntry}}}
use Rattle.word_rings.specs.Slots.{payload_width, IsBlankFrom, entry_body}
use Rattle.ref_words.specs.{Rings.{EntryFits, NoteFits, takes_entry_at, writes_note_at, takes_note_at, writes_entry_at, left_in_note, note_so_far}, Sides.{HasScrubLists}}
use Rattle.word_board.specs.Board.{TheNic, TheApp}

-- ---- the next slot of a ring

-- The card takes the next entry of an application from this slot of its refill ring,
pub record TakesEntryAt (card : TheNic) (a slot : ℕ) : Type 0 where
  pub here : a < apps_of card.board.setting
  pub within : slot < card.board.setting.places
  pub next : slot ≡ takes_entry_at card.board.setting card.side a

-- and writes the next note to it into this slot of its note ring.
pub record WritesNoteAt (card : TheNic) (a slot : ℕ) : Type 0 where
  pub here : a < apps_of card.board.setting
  pub within : slot < card.board.setting.places
  pub next : slot ≡ writes_note_at card.board.setting card.side a

-- An application takes its next note from this slot of its note ring,
pub record TakesNoteAt (app : TheApp) (slot : ℕ) : Type 0 where
  pub within : slot < app.board.setting.places
  pub next : slot ≡ takes_note_at app.board.setting app.side

-- and writes its next entry into this slot of its refill ring.
pub record WritesEntryAt (app : TheApp) (slot : ℕ) : Type 0 where
  pub within : slot < app.board.setting.places
  pub next : slot ≡ writes_entry_at app.board.setting app.side

-- The card has stored nothing into its next note slot for the application, and of the payload there only the first `left` words may be
-- other than 0.
pub record IsUnstored (card : TheNic) (a left : ℕ) : Type 0 where
  pub unstored : (next_slot card.side.inside.note_slots a).words ≡ []
  pub few : left ≤ payload_width
  pub blank : IsBlankFrom left (left_in_note card.board.setting card.side a)

-- The card stored these words of a note into that slot, which it saw free, and each of its fields fits into its part.
pub record HasStoredNote (card : TheNic) (slot : ℕ) (sent : SentNote) (body : List ℕ) : Type 0 where
  pub at : WritesNoteAt card sent.app slot
  pub fits : NoteFits sent
  pub seen : (next_slot card.side.inside.note_slots sent.app).seen ≡ true
  pub words : note_so_far card.board.setting card.side sent.app ≡ body

-- ---- an entry

-- An application stored the words of an entry into the slot for its next one, which it saw free, and each of its fields fits into its part.
pub record HasStoredEntry (app : TheApp) (slot : ℕ) (written : WrittenEntry) : Type 0 where
  pub at : WritesEntryAt app slot
  pub fits : EntryFits written
  pub seen : app.side.inside.refill_slot.seen ≡ true
  pub words : app.side.inside.refill_slot.words ≡ entry_body written.entry

-- It may write an entry that comes from no loan: it has no loan out in the buffer that the entry names, and no scrub has begun.
pub record MayPush (app : TheApp) (entry : Rqe) : Type 0 where
  pub idle : NamesNoLoan app.side.view entry
  pub counted : app.side.view.scrubbed ≡ false
  pub unbegun : app.side.inside.scrub_mark ≡ 0

-- The card has this entry of the application in hand, judged so. It is from the slot at which the card goes on, which it saw full.
pub record HasEntry (card : TheNic) (a slot : ℕ) (entry : Rqe) (judged : Judged) : Type 0 where
  pub at : TakesEntryAt card a slot
  pub seen : (next_slot card.side.inside.refill_slots a).seen ≡ true
  pub in_hand : card.side.inside.entry ≡ Some (record { app = a; entry = entry; judged = judged })

-- The card looked at the application's next slot and dealt with the entry there, as the answer says, and this is its cache then. Beside the
-- view only what it saw of refill slots has changed, and no entry is in hand.
pub record DealtEntry (old new : TheNic) (a : ℕ) (answer : Entry) (cached : List ℕ) : Type 0 where
  pub board : new.board ≡ old.board
  pub view : DealtWith old.side.view new.side.view a answer
  pub cache : cached ≡ new.side.view.cache
  pub inside : new.side.inside ≡ record old.side.inside { entry = None; refill_slots = new.side.inside.refill_slots }

-- ---- free buffers

-- The card's side is of its board, and it has no free buffer in hand.
pub record CardIsBare (card : TheNic) : Type 0 where
  pub set : card.side.view.setting ≡ card.board.setting
  pub hands : card.side.inside.hands ≡ []

-- So has an application.
pub record AppIsBare (app : TheApp) : Type 0 where
  pub set : app.side.view.setting ≡ app.board.setting
  pub hands : app.side.inside.hands ≡ []

-- An application may search the free list for a spare: the board's layout is one, a spare is due, and each buffer that it picked was given.
pub record MaySearch (app : TheApp) : Type 0 where
  pub sound : IsLayout app.board.setting.layout
  pub due : MaySpare app.side.view
  pub given : PicksAreGiven app.side

-- This is its reserve, a buffer of the board.
pub record IsReserve (app : TheApp) (buffer : ℕ) : Type 0 where
  pub within : buffer < all_buffers app.board.setting.layout
  pub own : buffer ≡ reserve_of app.side.view

-- ---- a scrub

-- An application's scrub came to this buffer.
pub record ScrubsAt (app : TheApp) (b : ℕ) : Type 0 where
  pub within : b < all_buffers app.board.setting.layout
  pub next : app.side.inside.scrub_mark ≡ b
  pub can : CanScrub app.side.view

-- It may scrub and has not begun: what it takes and owes is told for each buffer, and nothing is owed.
pub record BeginsScrub (app : TheApp) : Type 0 where
  pub can : CanScrub app.side.view
  pub unbegun : app.side.inside.scrub_mark ≡ 0
  pub lists : HasScrubLists app.board.setting app.side
  pub clear : (b : ℕ) → slice_index app.side.inside.scrub_owes b ≡ 0
