-- Runs of a board: what stands between two steps, the steps as plain data, and what holds after any list of them.
use Rattle.std.specs.Prelude.{◌≡◌, ◌≢◌, ◌≤◌, ◌<◌, ◌+◌, ◌-◌, ◌/◌, ◌∷◌, ◌++◌, [], ℕ, true, false, List, ◌==◌, Contains}
use Rattle.std.specs.Prelude.{None, Some, All, length, slice_index, slice_index_or, slice_set}
use mathlib.Core.Option.{some}
use lib.ListN.{get_elem?}
use Rattle.zr_kinds.specs.declared.{place.{Place.{Place}, Note.{Note}}, ring.Rqe.{Rqe}}
use Rattle.area_layout.specs.Layout.{area_of_buffer, IsLayout, all_buffers, judged}
use Rattle.board_face.specs.{FineSteps.{side_text_done}, NicEvents.{took, text_at, word_bits}, NicCalls.{HasOwn, HasPiece, HasNoToken, IsOpen, apps_of, free_words_of}}
use Rattle.board_face.specs.AppEvents.{cut, lent, lent_own, reserve_of, begin_place, entry_of as loan_entry}
use Rattle.board_face.specs.{AppCalls.{IsHere, HasHeld, HasLoan, HasSpare, IsFilled, CanLend, CanLeave, MaySpare, NamesNoLoan}, Counts.{pool_count, user_count}}
use Rattle.board_face.specs.{FreeOnce.{AreFreeOnce}, Holders.{sent_to}, Shown.{AreShown}, Relay.{IsAsSent}, Opened.{new_nic, new_app, new_apps}, Sides.{nic_at, app_at}}
use Rattle.board_face.specs.Steps.{side_begun, side_shut, side_judged, side_user_lowered, side_both_lowered}
use Rattle.board_face.specs.Steps.{HasSearched, side_released, side_spare_begun, side_user_taken, side_owes_lowered}
use Rattle.board_face.specs.SlotSteps.{next_slot, side_refill_looked, side_refill_stored, side_note_looked, side_note_stored}
use Rattle.board_face.specs.SlotSteps.{side_entry_looked, side_entry_loaded, side_in_hand, side_slot_looked, side_slot_loaded}
use Rattle.board_face.specs.SlotSteps.{side_gave, side_pushed, side_dealt, side_sent, side_sent_linear, side_took_note, side_took_linear}
use Rattle.board_face.specs.{Texts.{IsSplitNote, IsLinearNote}, Tokens.{filled_by, next_place}, Used.{PicksAreGiven}, declared.views.parts.Setting.{Setting}}
use Rattle.board_face.specs.declared.views.{parts.Filling.{Filling}, nic.Fate.TheVariants.{Honoured, Stray}, app.AppSide.{AppSide}}
use Rattle.board_face.specs.declared.views.nic.{Judged.TheVariants.{Not, Stray as judged_stray, Owed, UserLowered, BothLowered}, NicSide.{NicSide}}
use Rattle.word_rings.specs.Slots.{note_width, refill_width, entry_of_words, entry_body, note_body}
use Rattle.ref_words.specs.{declared.view.View.{View}, Words.{Words, opened_words, with_role, with_pool, pool_word_of, with_user, user_word_of, listed_bit}}
use Rattle.ref_words.specs.Words.{free_word_of, with_free, with_listed, with_unlisted, slot_word, with_refill, with_note, with_lines}
use Rattle.ref_words.specs.Seated.{Seated, times_in, due_view, card_seat_view, app_seat_view, dealt_out, both_sides, no_role, side_at}
use Rattle.ref_words.specs.Rings.{EntryFits, NoteFits, note_so_far, writes_entry_at, takes_entry_at, writes_note_at, takes_note_at}
use Rattle.ref_words.specs.{Rings.{refill_words_at, note_words_at, loaded_note, loaded_bytes, note_loads}}
use Rattle.ref_words.specs.Lines.{joined, byte_in_area, begin_line, line_count, lines_at, AreWide, HaveText}
use Rattle.ref_words.specs.AreaSteps.{making_in_hand, part_of, side_at_hand, side_spare_filled, side_read}
use Rattle.ref_words.specs.FreeSteps.{side_swept, side_nic_listed, side_app_listed, side_word_looked, side_bit_cleared}
use Rattle.ref_words.specs.{RestSteps.{side_raw_looked, side_any_looked, side_last_looked}, PhaseRule.{with_phase}}
use Rattle.ref_words.specs.PhaseSteps.{side_ended, side_leave_looked, side_left, side_end_looked, side_note_sought, side_reserve_looked, side_abandoned}
use Rattle.ref_words.specs.Rule.{BoardRule}

-- ---- a step of the card

pub data CardWordStep : Type 0 where
  -- a pool count is raised: a cached buffer is taken, or a piece of so many bytes is begun
  takes : ℕ → CardWordStep
  begins : Filling → ℕ → CardWordStep
  -- or lowered: a buffer is closed, or the reference goes that an entry in hand gives back
  shuts : Filling → CardWordStep
  lowers_pool : ℕ → Rqe → ℕ → CardWordStep
  -- a user count is loaded or lowered for the entry in hand, of an application for a buffer
  judges : ℕ → Rqe → ℕ → CardWordStep
  lowers_user : ℕ → Rqe → ℕ → CardWordStep
  -- at the next note slot of an application: the flag is loaded, a word is stored, and a note is handed over
  looks_note : ℕ → CardWordStep
  stores_note : ℕ → ℕ → CardWordStep
  sends : ℕ → Note → CardWordStep
  sends_linear : ℕ → Note → List ℕ → CardWordStep
  -- at its next refill slot: the flag is loaded, a word and the last word are loaded, and the slot is freed
  looks_entry : ℕ → CardWordStep
  loads_entry : ℕ → CardWordStep
  loads_last : ℕ → ℕ → CardWordStep
  frees_honoured : ℕ → Rqe → ℕ → CardWordStep
  frees_stray : ℕ → Rqe → CardWordStep
  frees_void : ℕ → Rqe → CardWordStep
  -- at the free list: a word is swept, or a buffer in hand is listed
  sweeps : ℕ → CardWordStep
  lists : ℕ → CardWordStep
  -- at the phase words: it ends, or looks whether an application has left
  ends : CardWordStep
  looks_left : ℕ → CardWordStep
  -- at the area: the lines of the piece in the making, which were taken when it was begun, are given back with its text
  places_piece : Filling → List ℕ → List (List ℕ) → CardWordStep

-- what the card must know for it, and for the numbers that it stores
abbrev pub CardMay : Setting → Words → NicSide → CardWordStep → Type 0
CardMay setting words nic (takes b) = (nic.view.cache ≡ (took nic.view b).cache ++ b ∷ []) × IsOpen nic.view
CardMay setting words nic (begins own n) = HasOwn nic.view own × (0 < n) × (own.start + n ≤ own.size) × (nic.inside.making ≡ None)
CardMay setting words nic (shuts own) = HasOwn nic.view own
CardMay setting words nic (lowers_pool a entry b) = nic.inside.entry ≡ Some (record { app = a; entry = entry; judged = UserLowered b })
CardMay setting words nic (judges a entry b) =
    (nic.inside.entry ≡ Some (record { app = a; entry = entry; judged = Not })) × (judged setting.layout entry ≡ Some b) × (b < all_buffers setting.layout)
CardMay setting words nic (lowers_user a entry b) = nic.inside.entry ≡ Some (record { app = a; entry = entry; judged = Owed b })
CardMay setting words nic (looks_note a) = (a < apps_of setting) × ((next_slot nic.inside.note_slots a).words ≡ [])
CardMay setting words nic (stores_note a n) =
    (a < apps_of setting) × ((next_slot nic.inside.note_slots a).seen ≡ true) × (note_words_at nic a < note_width)
CardMay setting words nic (sends a note) =
    (a < apps_of setting) × HasPiece nic.view note.place × IsSplitNote note × ((next_slot nic.inside.note_slots a).seen ≡ true)
    × (note_so_far setting nic a ≡ note_body note [] (area_of_buffer setting.layout note.place.buffer))
    × NoteFits (record { app = a; note = note; bytes = text_at nic.view note.place })
CardMay setting words nic (sends_linear a note bytes) =
    (a < apps_of setting) × IsLinearNote note × (note.total ≡ length bytes) × ((next_slot nic.inside.note_slots a).seen ≡ true)
    × (note_so_far setting nic a ≡ note_body note bytes 0) × NoteFits (record { app = a; note = note; bytes = bytes })
    × IsOpen nic.view
CardMay setting words nic (looks_entry a) = a < apps_of setting
CardMay setting words nic (loads_entry a) =
    (a < apps_of setting) × ((next_slot nic.inside.refill_slots a).seen ≡ true) × (refill_words_at nic a < refill_width)
CardMay setting words nic (loads_last a n) =
    (a < apps_of setting) × ((next_slot nic.inside.refill_slots a).seen ≡ true) × (refill_words_at nic a + 1 ≡ refill_width)
    × (nic.inside.entry ≡ None) × (n ≡ slot_word words.refills a (takes_entry_at setting nic a) (refill_words_at nic a))
CardMay setting words nic (frees_honoured a entry b) =
    (a < apps_of setting) × ((next_slot nic.inside.refill_slots a).seen ≡ true)
    × (nic.inside.entry ≡ Some (record { app = a; entry = entry; judged = BothLowered b })) × (nic.inside.hands ≡ [])
CardMay setting words nic (frees_stray a entry) =
    (a < apps_of setting) × ((next_slot nic.inside.refill_slots a).seen ≡ true)
    × (nic.inside.entry ≡ Some (record { app = a; entry = entry; judged = judged_stray }))
CardMay setting words nic (frees_void a entry) =
    (a < apps_of setting) × ((next_slot nic.inside.refill_slots a).seen ≡ true)
    × (nic.inside.entry ≡ Some (record { app = a; entry = entry; judged = Not })) × (judged setting.layout entry ≡ None)
CardMay setting words nic (sweeps j) = (j < free_words_of setting) × (length nic.view.cache < 64)
CardMay setting words nic (lists b) = Contains nic.inside.hands b
CardMay setting words nic ends = HasNoToken nic.view × (nic.inside.making ≡ None)
CardMay setting words nic (looks_left a) = a < apps_of setting
CardMay setting words nic (places_piece own bytes lines) =
    HasOwn nic.view (filled_by own (length bytes)) × (nic.inside.making ≡ making_in_hand (next_place own (length bytes)) []) × HaveText lines bytes

-- the words after it
abbrev pub card_words : Setting → Words → NicSide → CardWordStep → Words
card_words setting words nic (takes b) = with_pool words b (pool_word_of words b + 1)
card_words setting words nic (begins own n) = with_pool words own.buffer (pool_word_of words own.buffer + 1)
card_words setting words nic (shuts own) = with_pool words own.buffer (pool_word_of words own.buffer - 1)
card_words setting words nic (lowers_pool a entry b) = with_pool words b (pool_word_of words b - 1)
card_words setting words nic (judges a entry b) = words
card_words setting words nic (lowers_user a entry b) = with_user words a b (user_word_of words a b - 1)
card_words setting words nic (looks_note a) = words
card_words setting words nic (stores_note a n) = with_note words a (writes_note_at setting nic a) (note_words_at nic a) n
card_words setting words nic (sends a note) = with_note words a (writes_note_at setting nic a) 0 1
card_words setting words nic (sends_linear a note bytes) = with_note words a (writes_note_at setting nic a) 0 1
card_words setting words nic (looks_entry a) = words
card_words setting words nic (loads_entry a) = words
card_words setting words nic (loads_last a n) = words
card_words setting words nic (frees_honoured a entry b) = with_refill words a (takes_entry_at setting nic a) 0 0
card_words setting words nic (frees_stray a entry) = with_refill words a (takes_entry_at setting nic a) 0 0
card_words setting words nic (frees_void a entry) = with_refill words a (takes_entry_at setting nic a) 0 0
card_words setting words nic (sweeps j) = with_free words j 0
card_words setting words nic (lists b) = with_listed words b
card_words setting words nic ends = with_phase words 0
card_words setting words nic (looks_left a) = words
card_words setting words nic (places_piece own bytes lines) = with_lines words (begin_line setting.layout (next_place own (length bytes))) lines

-- and the card's side
abbrev pub card_after : Setting → Words → NicSide → CardWordStep → NicSide
card_after setting words nic (takes b) = nic_at nic (took nic.view b)
card_after setting words nic (begins own n) = side_begun nic own n
card_after setting words nic (shuts own) = side_shut nic own (pool_word_of words own.buffer == 1)
card_after setting words nic (lowers_pool a entry b) = side_both_lowered nic a entry b (pool_word_of words b == 1)
card_after setting words nic (judges a entry b) = side_judged nic a entry b (user_word_of words a b == 0)
card_after setting words nic (lowers_user a entry b) = side_user_lowered nic a entry b
card_after setting words nic (looks_note a) = side_note_looked nic a (slot_word words.notes a (writes_note_at setting nic a) 0 == 0)
card_after setting words nic (stores_note a n) = side_note_stored nic a n
card_after setting words nic (sends a note) = side_sent nic a note
card_after setting words nic (sends_linear a note bytes) = side_sent_linear nic a note bytes
card_after setting words nic (looks_entry a) = side_entry_looked nic a (slot_word words.refills a (takes_entry_at setting nic a) 0 == 1)
card_after setting words nic (loads_entry a) =
    side_entry_loaded nic a (slot_word words.refills a (takes_entry_at setting nic a) (refill_words_at nic a))
card_after setting words nic (loads_last a n) = side_in_hand nic a n (entry_of_words (1 ∷ (next_slot nic.inside.refill_slots a).words ++ n ∷ []))
card_after setting words nic (frees_honoured a entry b) = side_dealt nic a entry (Honoured b)
card_after setting words nic (frees_stray a entry) = side_dealt nic a entry Stray
card_after setting words nic (frees_void a entry) = side_dealt nic a entry Stray
card_after setting words nic (sweeps j) = side_swept nic j (free_word_of words j)
card_after setting words nic (lists b) = side_nic_listed nic b
card_after setting words nic ends = side_ended nic
card_after setting words nic (looks_left a) = side_leave_looked nic a (slice_index words.phases (1 + a) == 1)
card_after setting words nic (places_piece own bytes lines) = side_text_done nic own bytes

-- ---- a step of an application

pub data AppWordStep : Type 0 where
  -- a pool count is raised: a spare is taken that was picked, or the reserve, or a held piece is cut
  takes_picked : ℕ → AppWordStep
  takes_reserve : AppWordStep
  cuts : Place → ℕ → AppWordStep
  -- or lowered: a held piece is given up, or what a scrub took of a buffer
  releases : Place → AppWordStep
  lowers_scrubbed : ℕ → ℕ → AppWordStep
  -- a user count is raised: a held piece or a filled spare is lent; or swapped with 0 by a scrub
  lends : Place → AppWordStep
  lends_spare : Filling → AppWordStep
  scrubs : ℕ → AppWordStep
  -- at its next refill slot: the flag is loaded, a word is stored, and an entry is handed over
  looks_refill : AppWordStep
  stores_entry : ℕ → AppWordStep
  gives : Place → AppWordStep
  pushes : Rqe → AppWordStep
  -- the flag of any refill slot is loaded, of the last one after all others were seen free, or of that of its last raw entry
  looks_any : ℕ → AppWordStep
  looks_last : ℕ → AppWordStep
  looks_raw : ℕ → AppWordStep
  -- at its next note slot: the flag is loaded, a word is loaded, and the slot is freed
  looks_slot : AppWordStep
  loads_slot : AppWordStep
  takes_note : AppWordStep
  takes_linear : AppWordStep
  -- at the free list: a word is loaded, the bit of a buffer is cleared, or a buffer in hand is listed
  looks_word : ℕ → AppWordStep
  clears_bit : ℕ → AppWordStep
  relists : ℕ → AppWordStep
  -- at the phase words: it leaves, or looks whether the card has ended, and then for a note
  leaves : AppWordStep
  looks_end : AppWordStep
  seeks_note : AppWordStep
  -- at the pool count of its reserve, which is loaded, or a loan is abandoned
  looks_reserve : AppWordStep
  abandons : Place → AppWordStep
  -- at the area: the lines of so many bytes of a spare are taken, and given back with a text; or those of a loan are taken, of which so many
  -- bytes are read from one on, and these lines are given back
  takes_lines : Filling → ℕ → AppWordStep
  fills_spare : Filling → List ℕ → List (List ℕ) → AppWordStep
  reads_text : Place → ℕ → ℕ → AppWordStep
  gives_lines : Place → List (List ℕ) → AppWordStep

-- what the application must know for it, and for the numbers that it stores
abbrev pub AppMay : Setting → Words → AppSide → AppWordStep → Type 0
AppMay setting words app (takes_picked b) = Contains app.inside.hands b × MaySpare app.view × IsHere app.view
AppMay setting words app takes_reserve = HasSearched app × (app.inside.reserve_seen_free ≡ true) × MaySpare app.view × IsHere app.view
AppMay setting words app (cuts place at) = HasHeld app.view place × (0 < at) × (at < place.len)
AppMay setting words app (releases place) = HasHeld app.view place
AppMay setting words app (lowers_scrubbed b n) = (b < all_buffers setting.layout) × (slice_index app.inside.scrub_owes b ≡ n) × (0 < n)
AppMay setting words app (lends place) = HasHeld app.view place × CanLend app.view × (app.inside.scrub_mark ≡ 0)
AppMay setting words app (lends_spare own) = HasSpare app.view own × IsFilled app.view own × CanLend app.view × (app.inside.scrub_mark ≡ 0)
AppMay setting words app (scrubs b) =
    (b < all_buffers setting.layout) × (app.inside.scrub_mark ≡ b) × (app.view.quiet ≡ true) × (app.view.loans ≡ []) × (app.view.scrubbed ≡ false)
AppMay setting words app looks_refill = Unit {0}
AppMay setting words app (stores_entry n) = (app.inside.refill_slot.seen ≡ true) × (1 + length app.inside.refill_slot.words < refill_width)
AppMay setting words app (gives place) =
    HasLoan app.view place × (app.inside.refill_slot.seen ≡ true) × (app.inside.refill_slot.words ≡ entry_body (loan_entry app.view.setting.layout place))
    × EntryFits (record { entry = loan_entry app.view.setting.layout place; of_loan = true }) × (app.inside.making ≡ None)
AppMay setting words app (pushes entry) =
    NamesNoLoan app.view entry × (app.view.scrubbed ≡ false) × (app.inside.scrub_mark ≡ 0) × (app.inside.refill_slot.seen ≡ true)
    × (app.inside.refill_slot.words ≡ entry_body entry) × EntryFits (record { entry = entry; of_loan = false })
AppMay setting words app (looks_any s) = s < setting.places
AppMay setting words app (looks_last s) = (s < setting.places) × ((k : ℕ) → k < setting.places → Contains (s ∷ app.inside.free_slots) k)
AppMay setting words app (looks_raw s) = app.inside.raw_slot ≡ Some s
AppMay setting words app looks_slot = Unit {0}
AppMay setting words app loads_slot = (app.inside.note_slot.seen ≡ true) × (1 + length app.inside.note_slot.words < note_width)
AppMay setting words app takes_note =
    (app.inside.note_slot.seen ≡ true) × (note_loads (loaded_note app) ≤ 1 + length app.inside.note_slot.words) × ((loaded_note app).split ≡ true)
AppMay setting words app takes_linear =
    (app.inside.note_slot.seen ≡ true) × (note_loads (loaded_note app) ≤ 1 + length app.inside.note_slot.words) × ((loaded_note app).split ≡ false)
AppMay setting words app (looks_word j) = j < free_words_of setting
AppMay setting words app (clears_bit b) = (b / word_bits < free_words_of setting) × MaySpare app.view × PicksAreGiven app
AppMay setting words app (relists b) = Contains app.inside.hands b
AppMay setting words app leaves = CanLeave app.view
AppMay setting words app looks_end = Unit {0}
AppMay setting words app seeks_note = Unit {0}
AppMay setting words app looks_reserve = HasSearched app
AppMay setting words app (abandons place) = HasLoan app.view place × (app.inside.making ≡ None)
AppMay setting words app (takes_lines own len) =
    HasSpare app.view own × (own.start ≡ 0) × (0 < len) × (len ≤ 256) × (app.inside.making ≡ None)
AppMay setting words app (fills_spare own bytes lines) =
    HasSpare app.view own × (own.start ≡ 0) × (0 < length bytes) × (length bytes ≤ 256)
    × (app.inside.making ≡ making_in_hand (begin_place own.buffer (length bytes)) []) × HaveText lines bytes
AppMay setting words app (reads_text place from n) =
    HasLoan app.view place × (0 < n) × (from + n ≤ place.len) × (app.inside.making ≡ None)
AppMay setting words app (gives_lines place lines) =
    (app.inside.making ≡ making_in_hand place (joined lines)) × (0 < length lines) × (length lines ≡ line_count place) × AreWide lines

-- the words after it
abbrev pub app_words : Setting → Words → AppSide → AppWordStep → Words
app_words setting words app (takes_picked b) = with_pool words b (pool_word_of words b + 1)
app_words setting words app takes_reserve = with_pool words (reserve_of app.view) (pool_word_of words (reserve_of app.view) + 1)
app_words setting words app (cuts place at) = with_pool words place.buffer (pool_word_of words place.buffer + 1)
app_words setting words app (releases place) = with_pool words place.buffer (pool_word_of words place.buffer - 1)
app_words setting words app (lowers_scrubbed b n) = with_pool words b (pool_word_of words b - n)
app_words setting words app (lends place) = with_user words app.view.app place.buffer (user_word_of words app.view.app place.buffer + 1)
app_words setting words app (lends_spare own) = with_user words app.view.app own.buffer (user_word_of words app.view.app own.buffer + 1)
app_words setting words app (scrubs b) = with_user words app.view.app b 0
app_words setting words app looks_refill = words
app_words setting words app (stores_entry n) =
    with_refill words app.view.app (writes_entry_at setting app) (1 + length app.inside.refill_slot.words) n
app_words setting words app (gives place) = with_refill words app.view.app (writes_entry_at setting app) 0 1
app_words setting words app (pushes entry) = with_refill words app.view.app (writes_entry_at setting app) 0 1
app_words setting words app (looks_any s) = words
app_words setting words app (looks_last s) = words
app_words setting words app (looks_raw s) = words
app_words setting words app looks_slot = words
app_words setting words app loads_slot = words
app_words setting words app takes_note = with_note words app.view.app (takes_note_at setting app) 0 0
app_words setting words app takes_linear = with_note words app.view.app (takes_note_at setting app) 0 0
app_words setting words app (looks_word j) = words
app_words setting words app (clears_bit b) = with_unlisted words b
app_words setting words app (relists b) = with_listed words b
app_words setting words app leaves = with_phase words (1 + app.view.app)
app_words setting words app looks_end = words
app_words setting words app seeks_note = words
app_words setting words app looks_reserve = words
app_words setting words app (abandons place) = words
app_words setting words app (takes_lines own len) = words
app_words setting words app (fills_spare own bytes lines) = with_lines words (begin_line setting.layout (begin_place own.buffer (length bytes))) lines
app_words setting words app (reads_text place from n) = words
app_words setting words app (gives_lines place lines) = words

-- and the application's side
abbrev pub app_after : Setting → Words → AppSide → AppWordStep → AppSide
app_after setting words app (takes_picked b) = side_spare_begun app b
app_after setting words app takes_reserve = side_spare_begun app (reserve_of app.view)
app_after setting words app (cuts place at) = app_at app (cut app.view place at)
app_after setting words app (releases place) = side_released app place (pool_word_of words place.buffer == 1)
app_after setting words app (lowers_scrubbed b n) = side_owes_lowered app b (pool_word_of words b == n)
app_after setting words app (lends place) = app_at app (lent app.view place)
app_after setting words app (lends_spare own) = app_at app (lent_own app.view own)
app_after setting words app (scrubs b) = side_user_taken app b (user_word_of words app.view.app b)
app_after setting words app looks_refill = side_refill_looked app (slot_word words.refills app.view.app (writes_entry_at setting app) 0 == 0)
app_after setting words app (stores_entry n) = side_refill_stored app n
app_after setting words app (gives place) = side_gave app place
app_after setting words app (pushes entry) = side_pushed app entry
app_after setting words app (looks_any s) = side_any_looked app s (slot_word words.refills app.view.app s 0 == 0)
app_after setting words app (looks_last s) = side_last_looked app s (slot_word words.refills app.view.app s 0 == 0)
app_after setting words app (looks_raw s) = side_raw_looked app (slot_word words.refills app.view.app s 0 == 0)
app_after setting words app looks_slot = side_slot_looked app (slot_word words.notes app.view.app (takes_note_at setting app) 0 == 1)
app_after setting words app loads_slot =
    side_slot_loaded app (slot_word words.notes app.view.app (takes_note_at setting app) (1 + length app.inside.note_slot.words))
app_after setting words app takes_note = side_took_note app (loaded_note app)
app_after setting words app takes_linear =
    side_took_linear app (loaded_note app) (loaded_bytes app)
app_after setting words app (looks_word j) = side_word_looked app j (free_word_of words j == 0)
app_after setting words app (clears_bit b) = side_bit_cleared app (b / word_bits) b (listed_bit words b)
app_after setting words app (relists b) = side_app_listed app b
app_after setting words app leaves = side_left app
app_after setting words app looks_end = side_end_looked app (slice_index words.phases 0 == 1)
app_after setting words app seeks_note = side_note_sought app (slot_word words.notes app.view.app (takes_note_at setting app) 0 == 1)
app_after setting words app looks_reserve = side_reserve_looked app (pool_word_of words (reserve_of app.view) == 0)
app_after setting words app (abandons place) = side_abandoned app place
app_after setting words app (takes_lines own len) = side_at_hand app (making_in_hand (begin_place own.buffer len) [])
app_after setting words app (fills_spare own bytes lines) = side_spare_filled app own bytes
app_after setting words app (reads_text place from n) = side_read app place from n (lines_at setting.layout words.area (part_of place from n))
app_after setting words app (gives_lines place lines) = side_at_hand app None

-- ---- any step

-- A board between two steps: its words, the views of its seats, and the sides of all roles.
pub record BoardState : Type 0 where
  pub words : Words
  pub views : List View
  pub nic : NicSide
  pub apps : List AppSide

-- a board that was just opened, with one seat, the desk, that has no role
abbrev pub opened_state : Setting → BoardState
opened_state setting = record {
  words = opened_words setting;
  views = no_role ∷ [];
  nic = new_nic setting;
  apps = new_apps setting 0 (apps_of setting);
}

-- Seats are numbered from 0, the desk first. A step of a role is made by the seat that has it.
pub data SeatStep : Type 0 where
  -- the desk deals a role out to a new seat
  deals : ℕ → SeatStep
  -- a seat goes back to another
  joins : ℕ → ℕ → SeatStep
  -- a seat to which the role is due becomes the card's, or an application's
  becomes_card : ℕ → SeatStep
  becomes_app : ℕ → ℕ → SeatStep
  -- a seat makes a step of the card, or of an application
  by_card : ℕ → CardWordStep → SeatStep
  by_app : ℕ → ℕ → AppWordStep → SeatStep

abbrev pub view_of_seat : BoardState → ℕ → View
view_of_seat s id = slice_index_or s.views id no_role

-- a seat is there, and has this view
abbrev pub HasSeat : BoardState → ℕ → View → Type 0
HasSeat s id v = get_elem? s.views id ≡ some v

-- The seat that makes the step is there and knows what it must.
abbrev pub May : Setting → BoardState → SeatStep → Type 0
May setting s (deals r) = HasSeat s 0 (view_of_seat s 0) × (times_in {V = View} (λ v. v.dealt) (λ x. x) r (view_of_seat s 0).dealt ≡ 0)
May setting s (joins id other) =
    HasSeat s id (view_of_seat s id) × (other ≢ id) × HasSeat s other (view_of_seat s other) × ((view_of_seat s other).due ≡ [])
    × ((view_of_seat s other).dealt ≡ [])
May setting s (becomes_card id) = HasSeat s id (due_view 0)
May setting s (becomes_app id a) = HasSeat s id (due_view (1 + a)) × (a < apps_of setting)
May setting s (by_card id step) = HasSeat s id (card_seat_view s.nic) × CardMay setting s.words s.nic step
May setting s (by_app id a step) =
    HasSeat s id (app_seat_view (side_at setting s.apps a)) × ((side_at setting s.apps a).view.app ≡ a)
    × AppMay setting s.words (side_at setting s.apps a) step

abbrev pub after_step : Setting → BoardState → SeatStep → BoardState
after_step setting s (deals r) = record s { views = slice_set s.views 0 (dealt_out r (view_of_seat s 0)) ++ due_view r ∷ [] }
after_step setting s (joins id other) = record s {
  views = slice_set (slice_set s.views id (both_sides (view_of_seat s id) (view_of_seat s other))) other no_role;
}
after_step setting s (becomes_card id) = record s { words = with_role s.words 0; views = slice_set s.views id (card_seat_view (new_nic setting)) }
after_step setting s (becomes_app id a) = record s { words = with_role s.words (1 + a); views = slice_set s.views id (app_seat_view (new_app setting a)) }
after_step setting s (by_card id step) = record s {
  words = card_words setting s.words s.nic step;
  views = slice_set s.views id (card_seat_view (card_after setting s.words s.nic step));
  nic = card_after setting s.words s.nic step;
}
after_step setting s (by_app id a step) = record s {
  words = app_words setting s.words (side_at setting s.apps a) step;
  views = slice_set s.views id (app_seat_view (app_after setting s.words (side_at setting s.apps a) step));
  apps = slice_set s.apps a (app_after setting s.words (side_at setting s.apps a) step);
}

-- ---- runs

-- each step may be made where the ones before it lead
abbrev pub MayRun : Setting → BoardState → List SeatStep → Type 0
MayRun setting s [] = Unit {0}
MayRun setting s (step ∷ steps) = May setting s step × MayRun setting (after_step setting s step) steps

abbrev pub run_of : Setting → BoardState → List SeatStep → BoardState
run_of setting s [] = s
run_of setting s (step ∷ steps) = run_of setting (after_step setting s step) steps

-- ---- what holds between any two steps

-- The whole rule, and who sits where.
pub record Keeps (setting : Setting) (s : BoardState) : Type 0 where
  pub seated : Seated setting s.words.roles s.views s.nic s.apps
  pub rule : BoardRule setting s.words s.nic s.apps

-- A buffer has at most 65,536 bytes. Each of its holders but the one that fills it has one of them at least.
abbrev pub most_holders : ℕ
most_holders = 65537

-- And so: each pool count is the number of the buffer's holders, each user count that of the application's loans there, out or owed;
-- a buffer has at most 65,537 holders, so no count has wrapped; each pool buffer is free once or held; each text that is placed, on its
-- way, held, lent or still owed stands in the area; and what was read is what was sent.
pub record BoardHolds (setting : Setting) (s : BoardState) : Type 0 where
  pub pool : (b : ℕ) → b < all_buffers setting.layout → pool_word_of s.words b ≡ pool_count b s.nic s.apps
  pub users : (a b : ℕ) → a < apps_of setting → b < all_buffers setting.layout → user_word_of s.words a b ≡ user_count a b s.nic s.apps
  pub pool_few : (b : ℕ) → b < all_buffers setting.layout → pool_count b s.nic s.apps ≤ most_holders
  pub users_few : (a b : ℕ) → a < apps_of setting → b < all_buffers setting.layout → user_count a b s.nic s.apps ≤ most_holders
  pub free : AreFreeOnce (listed_bit s.words) s.nic s.apps
  pub shown : AreShown (byte_in_area setting.layout s.words.area) s.nic s.apps
  pub reads : All (λ app. All (IsAsSent (sent_to app.view.app s.nic)) app.view.reads) s.apps

-- Whatever the steps from the opening on, and whichever seats make them.
abbrev pub RunsKeepTheRule : Type 0
RunsKeepTheRule =
    (setting : Setting) (steps : List SeatStep) → IsLayout setting.layout → 0 < setting.places → MayRun setting (opened_state setting) steps
    → Keeps setting (run_of setting (opened_state setting) steps) × BoardHolds setting (run_of setting (opened_state setting) steps)
