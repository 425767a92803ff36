-- What an answer 'not now' tells a role. Each look ties to the word that it loaded: by the rule there is a board with what this role
-- did, on which the word is so. It is no more than that, since others step before and after the load.
use Rattle.std.specs.{Prelude.{⊤, ◌≡◌, ℕ, ◌+◌, ◌*◌, ◌<◌, ◌≤◌, ◌==◌, ◌⊎◌, false, List, slice_index}, Int.{trailing_zeros, w64}}
use Rattle.area_layout.specs.Layout.{pool_buffers}
use Rattle.board_face.specs.{NicCalls.{free_words_of}, NicEvents.{word_bits, nic_gist}, AppEvents.{app_gist, reserve_of}, Sides.{IsApp}}
use Rattle.board_face.specs.declared.views.{parts.Setting.{Setting}, nic.{NicView.{NicView}, NicSide.{NicSide}, NicLook.{NicLook}}}
use Rattle.board_face.specs.declared.views.{nic.NicLook.TheVariants.{RingEmpty, NoteInUse, NotLeft}, app.{AppView.{AppView}, AppSide.{AppSide}, AppLook.{AppLook}}}
use Rattle.board_face.specs.declared.views.app.AppLook.TheVariants.{NoNote, RefillInUse, RawOnItsWay, NoneListed, NoSpare, NotQuiet}
use Rattle.ref_words.specs.{Words.{Words, slot_word, free_word_of, listed_bit, pool_word_of}, Rings.{IsLastRaw, takes_entry_at, writes_note_at, writes_entry_at}}
use Rattle.ref_words.specs.{Rings.{takes_note_at}, Rule.{BoardRule}}
use Rattle.word_board.specs.Board.{TheBoard}

-- By the rule there is a board on which the card has done what it did, and this holds of the words.
pub record IsToldToCard (setting : Setting) (v : NicView) (so : Words → NicSide → Type 0) : Type 0 where
  pub words : Words
  pub nic : NicSide
  pub apps : List AppSide
  pub rule : BoardRule setting words nic apps
  pub same : nic_gist nic.view ≡ v
  pub holds : so words nic

-- The same of an application.
pub record IsToldToApp (setting : Setting) (v : AppView) (so : Words → AppSide → Type 0) : Type 0 where
  pub words : Words
  pub nic : NicSide
  pub apps : List AppSide
  pub app : AppSide
  pub rule : BoardRule setting words nic apps
  pub here : IsApp apps app.view.app app
  pub same : app_gist app.view ≡ v
  pub holds : so words app

-- ---- the card

-- the flag of the next refill slot of the application isn't 1
abbrev pub SawRingEmpty : Setting → NicView → ℕ → Type 0
SawRingEmpty setting v a = IsToldToCard setting v (λ words nic. (slot_word words.refills a (takes_entry_at setting nic a) 0 == 1) ≡ false)

-- the flag of its next note slot isn't 0
abbrev pub SawNoteInUse : Setting → NicView → ℕ → Type 0
SawNoteInUse setting v a = IsToldToCard setting v (λ words nic. (slot_word words.notes a (writes_note_at setting nic a) 0 == 0) ≡ false)

-- its phase word isn't 1
abbrev pub SawNotLeft : Setting → NicView → ℕ → Type 0
SawNotLeft setting v a = IsToldToCard setting v (λ words nic. (slice_index words.phases (1 + a) == 1) ≡ false)

-- what the card's seat says of its looks
abbrev pub NicTells : NicLook → NicView → TheBoard → Type 0
NicTells (RingEmpty a) v board = SawRingEmpty board.setting v a
NicTells (NoteInUse a) v board = SawNoteInUse board.setting v a
NicTells (NotLeft a) v board = SawNotLeft board.setting v a
NicTells look v board = ⊤

-- ---- an application

-- the card's phase word isn't 1
abbrev pub SawNotEnded : Setting → AppView → Type 0
SawNotEnded setting v = IsToldToApp setting v (λ words app. (slice_index words.phases 0 == 1) ≡ false)

-- the flag of the own next note slot isn't 1
abbrev pub SawNoNote : Setting → AppView → Type 0
SawNoNote setting v = IsToldToApp setting v (λ words app. (slot_word words.notes app.view.app (takes_note_at setting app) 0 == 1) ≡ false)

-- the flag of the own next refill slot isn't 0
abbrev pub SawRefillInUse : Setting → AppView → Type 0
SawRefillInUse setting v = IsToldToApp setting v (λ words app. (slot_word words.refills app.view.app (writes_entry_at setting app) 0 == 0) ≡ false)

-- nor is that of the slot of the last raw entry
pub record IsRawInUse (setting : Setting) (words : Words) (app : AppSide) : Type 0 where
  pub slot : ℕ
  pub last : IsLastRaw setting.places app.view.written slot
  pub in_use : (slot_word words.refills app.view.app slot 0 == 0) ≡ false

-- nor is that of one of the refill slots
pub record IsOneInUse (setting : Setting) (words : Words) (app : AppSide) : Type 0 where
  pub slot : ℕ
  pub within : slot < setting.places
  pub in_use : (slot_word words.refills app.view.app slot 0 == 0) ≡ false

-- the word of the free list is this number
abbrev pub SawFree : Setting → AppView → ℕ → ℕ → Type 0
SawFree setting v j n = IsToldToApp setting v (λ words app. free_word_of words j ≡ n)

-- the buffer isn't listed
abbrev pub SawUnlisted : Setting → AppView → ℕ → Type 0
SawUnlisted setting v b = IsToldToApp setting v (λ words app. listed_bit words b ≡ false)

-- A word of the free list was seen 0, or its lowest buffer wasn't listed any more when the bit was cleared.
pub record SawWithout (setting : Setting) (v : AppView) (j : ℕ) : Type 0 where
  pub found : ℕ
  pub seen : SawFree setting v j found
  pub none : (found ≡ 0) ⊎ SawUnlisted setting v (j * word_bits + trailing_zeros w64 found)

-- Each word of the free list was seen so.
abbrev pub SawNoneListed : Setting → AppView → Type 0
SawNoneListed setting v = (j : ℕ) → j < free_words_of setting → SawWithout setting v j

-- the pool count of the own reserve isn't 0
abbrev pub SawReserveHeld : Setting → AppView → Type 0
SawReserveHeld setting v = IsToldToApp setting v (λ words app. (pool_word_of words (reserve_of app.view) == 0) ≡ false)

-- what an application's seat says of its looks
abbrev pub AppTells : AppLook → AppView → TheBoard → Type 0
AppTells NoNote v board = SawNotEnded board.setting v × SawNoNote board.setting v
AppTells RefillInUse v board = SawRefillInUse board.setting v
AppTells RawOnItsWay v board = IsToldToApp board.setting v (IsRawInUse board.setting)
AppTells NotQuiet v board = IsToldToApp board.setting v (IsOneInUse board.setting)
AppTells NoneListed v board = SawNoneListed board.setting v
AppTells NoSpare v board = SawNoneListed board.setting v × SawReserveHeld board.setting v
AppTells look v board = ⊤

-- ---- a spare

-- the lowest buffer that the number of a word lists, which was seen
pub record IsLowestSeen (setting : Setting) (v : AppView) (j buffer : ℕ) : Type 0 where
  pub found : ℕ
  pub seen : SawFree setting v j found
  pub lowest : buffer ≡ j * word_bits + trailing_zeros w64 found

-- The words before this one had no buffer for the application. It is the word of which the buffer is the lowest; where that is the
-- reserve no word had one.
pub record IsFirstSeen (setting : Setting) (v : AppView) (buffer : ℕ) : Type 0 where
  pub word : ℕ
  pub before : (j : ℕ) → j < word → SawWithout setting v j
  pub there : buffer < pool_buffers setting.layout → IsLowestSeen setting v word buffer
  pub nowhere : pool_buffers setting.layout ≤ buffer → free_words_of setting ≤ word

-- what an application's seat says of a spare that it gives
abbrev pub AppFinds : ℕ → AppView → TheBoard → Type 0
AppFinds buffer v board = IsFirstSeen board.setting v buffer
