-- What holds of a seat between two calls: its role is in the middle of nothing, its tokens lie in their buffers, and what it keeps
-- beside the words tells of its side.
use Rattle.std.specs.Prelude.{◌≡◌, ◌≢◌, ℕ, ◌+◌, ◌*◌, ◌%◌, ◌<◌, ◌≤◌, ◌==◌, true, false, List, [], length, filter, All, AllPairs}
use Rattle.std.specs.Prelude.{replicate, slice_index, Option, Some, None, MatchOption}
use Rattle.area_layout.specs.Layout.{LiesIn, pool_buffers, all_buffers, size_of}
use Rattle.board_face.specs.{NicCalls.{apps_of}, Returns.{loans_out}, Used.{PicksAreGiven}, declared.views.{parts.Setting.{Setting}, nic.NicSide.{NicSide}}}
use Rattle.board_face.specs.{declared.views.{app.AppSide.{AppSide}, nic.SentNote.{SentNote}, parts.Slot.{Slot}}, SlotSteps.{next_slot}}
use Rattle.word_rings.specs.Slots.{note_width, payload_width, IsBlankFrom}
use Rattle.ref_words.specs.{Rings.{left_for, words_of_note, writes_note_at, takes_note_at, writes_entry_at, takes_entry_at}, Sides.{HasScrubLists}}

-- ---- the card

-- it has no piece in the making, no entry in hand, and no free buffer in hand
pub record NicRests (nic : NicSide) : Type 0 where
  pub making : nic.inside.making ≡ None
  pub entry : nic.inside.entry ≡ None
  pub hands : nic.inside.hands ≡ []

-- what it has cached or fills are buffers of the pool, each of the size that the layout gives it
pub record NicLies (setting : Setting) (nic : NicSide) : Type 0 where
  pub cached : All (λ b. b < pool_buffers setting.layout) nic.view.cache
  pub owns : All (λ o. (o.buffer < pool_buffers setting.layout) × (o.size ≡ size_of setting.layout o.buffer)) nic.view.owns

-- Its cache is the view's, and it knows the next slot of each ring.
pub record NicKeeps (setting : Setting) (nic : NicSide) (kept notes entries : List ℕ) : Type 0 where
  pub set : nic.view.setting ≡ setting
  pub rests : NicRests nic
  pub lies : NicLies setting nic
  pub cache : kept ≡ nic.view.cache
  pub many : (length notes ≡ 8) × (length entries ≡ 8)
  pub next_notes : (a : ℕ) → a < apps_of setting → slice_index notes a ≡ writes_note_at setting nic a
  pub next_entries : (a : ℕ) → a < apps_of setting → slice_index entries a ≡ takes_entry_at setting nic a

-- It has stored nothing into any next note slot, and knows of each slot from which word of the payload on there are zeros: of the
-- slots to an application in turn, 256 numbers for each.
pub record KnowsLeft (setting : Setting) (sent : List SentNote) (slots : List Slot) (filled : List ℕ) : Type 0 where
  pub many : length filled ≡ 2048
  pub most : (i : ℕ) → slice_index filled i ≤ payload_width
  pub blank : (a k : ℕ) → a < apps_of setting → length (filter (λ s. s.app == a) sent) ≤ k
      → k < length (filter (λ s. s.app == a) sent) + setting.places
      → IsBlankFrom (slice_index filled (256 * a + k % setting.places))
      (left_for note_width (words_of_note setting) setting.places (filter (λ s. s.app == a) sent) k)
  pub unstored : (a : ℕ) → (next_slot slots a).words ≡ []

-- ---- an application

-- It has no text in the making and no free buffer in hand. No look for a note is begun and not done, no search for a spare, and no scrub.
pub record AppRests (setting : Setting) (app : AppSide) : Type 0 where
  pub making : app.inside.making ≡ None
  pub hands : app.inside.hands ≡ []
  pub given : PicksAreGiven app
  pub looked : app.inside.end_unseen ≡ false
  pub searched : (app.inside.words_without ≡ []) × (app.inside.reserve_seen_free ≡ false)
  pub owes : (b : ℕ) → slice_index app.inside.scrub_owes b ≡ 0
  pub unbegun : app.view.scrubbed ≡ false → app.inside.scrub_mark ≡ 0
  pub lists : app.view.scrubbed ≡ false → HasScrubLists setting app

-- What it holds and has lent lies in its buffers. No two of its spares are one buffer; each has room for a short payload, and its text is one.
pub record AppLies (setting : Setting) (app : AppSide) : Type 0 where
  pub helds : All (λ h. LiesIn setting.layout h.place) app.view.helds
  pub loans : All (λ l. LiesIn setting.layout l.place) app.view.loans
  pub spares : All (λ s. (s.own.buffer < all_buffers setting.layout) × (s.own.size ≡ size_of setting.layout s.own.buffer) × (256 ≤ s.own.size)) app.view.owns
  pub texts : All (λ s. length s.bytes ≤ 256) app.view.owns
  pub apart : AllPairs (λ s t. s.own.buffer ≢ t.own.buffer) app.view.owns

-- what an application keeps that has done nothing
pub record IsNew (setting : Setting) (note entry : ℕ) (raw : Option ℕ) (loans filled : List ℕ) : Type 0 where
  pub slots : (note ≡ 0) × (entry ≡ 0) × (raw ≡ None)
  pub none_out : loans ≡ replicate (all_buffers setting.layout) 0
  pub none_filled : filled ≡ replicate (all_buffers setting.layout) 0

-- it knows the next slot of each of its rings, and that of its last raw entry, where it hasn't settled since
pub record KnowsSlots (setting : Setting) (app : AppSide) (note entry : ℕ) (raw : Option ℕ) : Type 0 where
  pub next_note : note ≡ takes_note_at setting app
  pub next_entry : entry ≡ writes_entry_at setting app
  pub last_raw : MatchOption raw
      (app.view.settled ≡ true)
      (λ slot. (app.view.settled ≡ false) × (slot < setting.places) × (app.inside.raw_slot ≡ Some slot))

-- it knows of each buffer how many of its loans are out there, and how long the text of its spare is
pub record KnowsTokens (setting : Setting) (app : AppSide) (loans filled : List ℕ) : Type 0 where
  pub many : (length loans ≡ all_buffers setting.layout) × (length filled ≡ all_buffers setting.layout)
  pub out : (b : ℕ) → b < all_buffers setting.layout → slice_index loans b ≡ loans_out b app
  pub lengths : All (λ s. slice_index filled s.own.buffer ≡ length s.bytes) app.view.owns

pub record AppKeeps (setting : Setting) (app : AppSide) (note entry : ℕ) (raw : Option ℕ) (loans filled : List ℕ) : Type 0 where
  pub set : app.view.setting ≡ setting
  pub here : app.view.app < apps_of setting
  pub rests : AppRests setting app
  pub lies : AppLies setting app
  pub slots : KnowsSlots setting app note entry raw
  pub tokens : KnowsTokens setting app loans filled
