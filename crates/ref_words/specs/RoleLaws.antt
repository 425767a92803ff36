-- The laws of the steps of each role: for all words and sides that meet the rule, and each step that the role may make, what it
-- finds, that the lines which it takes are at home, and that the words and sides behind it meet the rule again.
use Rattle.std.specs.Prelude.{◌≡◌, ◌+◌, ◌^◌, ◌<◌, ◌≤◌, true, false, List, slice_index, slice_set}
use Rattle.area_layout.specs.Layout.{pool_buffers}
use Rattle.board_face.specs.{NicCalls.{HasNothingIn}, AppCalls.{HasNoneIn, ShowsCopy, TookNote}, Sides.{IsApp}, Tokens.{next_place}}
use Rattle.board_face.specs.AppEvents.{begin_place, loan_origin, reserve_of}
use Rattle.board_face.specs.{Texts.{IsLinearNote}, SlotSteps.{side_took_note}, declared.views.{parts.Setting.{Setting}, nic.NicSide.{NicSide}, app.AppSide.{AppSide}}}
use Rattle.ref_words.specs.{Words.{Words, pool_word_of, user_word_of, listed_bit, free_word_of}, Rings.{loaded_note}, Lines.{text_in, lines_at}, AreaSteps.{part_of}}
use Rattle.ref_words.specs.{FreeSteps.{IsSwept}, Rule.{BoardRule}, Homes.{AreHome}, Runs.{CardWordStep, CardMay, card_words, card_after, AppWordStep, AppMay, app_words, app_after}}
use Rattle.ref_words.specs.Runs.{takes, begins, shuts, lowers_pool, lowers_user, sweeps, lists, takes_picked, takes_reserve, cuts, releases, lowers_scrubbed}
use Rattle.ref_words.specs.Runs.{lends, lends_spare, takes_note, takes_linear, clears_bit, relists, looks_end, takes_lines, reads_text, gives_lines}

-- What the card finds: a buffer that it takes has no holder and nothing of the card's, no count wraps, what is taken from a count is
-- there, and a buffer that is listed wasn't before.
abbrev pub FoundByCard : Setting → Words → NicSide → CardWordStep → Type 0
FoundByCard setting words nic (takes b) = HasNothingIn nic.view b × (pool_word_of words b ≡ 0)
FoundByCard setting words nic (begins own n) = pool_word_of words own.buffer + 1 < 2 ^ 64
FoundByCard setting words nic (shuts own) = 1 ≤ pool_word_of words own.buffer
FoundByCard setting words nic (lowers_pool a entry b) = 1 ≤ pool_word_of words b
FoundByCard setting words nic (lowers_user a entry b) = 1 ≤ user_word_of words a b
FoundByCard setting words nic (sweeps j) = IsSwept nic j (free_word_of words j)
FoundByCard setting words nic (lists b) = listed_bit words b ≡ false
FoundByCard setting words nic _ = Unit {0}

-- the lines that the card takes by a step are at home
abbrev pub CardTakesLines : Setting → NicSide → List AppSide → CardWordStep → Type 0
CardTakesLines setting nic apps (begins own n) = AreHome setting nic apps (next_place own n)
CardTakesLines setting nic apps _ = Unit {0}

pub record CardStepStands (setting : Setting) (words : Words) (nic : NicSide) (apps : List AppSide) (step : CardWordStep) : Type 0 where
  pub finds : FoundByCard setting words nic step
  pub lines : CardTakesLines setting nic apps step
  pub rule : BoardRule setting (card_words setting words nic step) (card_after setting words nic step) apps

abbrev pub CardLaw : Type 0
CardLaw =
    (setting : Setting) (words : Words) (nic : NicSide) (apps : List AppSide) (step : CardWordStep)
    → BoardRule setting words nic apps → CardMay setting words nic step → CardStepStands setting words nic apps step

-- What an application finds: of counts and the free list the same. A note that it takes is split, and its piece lies where nothing of
-- the application's lay, or it has its bytes; once the card's end was seen it is seen again; what is read of a copied text is the copy, and
-- lines that were read stand in the area as they are given back.
abbrev pub FoundByApp : Setting → Words → AppSide → AppWordStep → Type 0
FoundByApp setting words app (takes_picked b) = HasNoneIn app.view b × (pool_word_of words b ≡ 0)
FoundByApp setting words app takes_reserve = HasNoneIn app.view (reserve_of app.view) × (pool_word_of words (reserve_of app.view) ≡ 0)
FoundByApp setting words app (cuts place at) = pool_word_of words place.buffer + 1 < 2 ^ 64
FoundByApp setting words app (releases place) = 1 ≤ pool_word_of words place.buffer
FoundByApp setting words app (lowers_scrubbed b n) = n ≤ pool_word_of words b
FoundByApp setting words app (lends place) = user_word_of words app.view.app place.buffer + 1 < 2 ^ 64
FoundByApp setting words app (lends_spare own) = user_word_of words app.view.app own.buffer + 1 < 2 ^ 64
FoundByApp setting words app takes_note = TookNote app.view (side_took_note app (loaded_note app)).view (loaded_note app) (loaded_note app).place
FoundByApp setting words app takes_linear = IsLinearNote (loaded_note app)
FoundByApp setting words app (clears_bit b) = listed_bit words b ≡ true → b < pool_buffers setting.layout
FoundByApp setting words app (relists b) = listed_bit words b ≡ false
FoundByApp setting words app looks_end = app.inside.end_seen ≡ true → slice_index words.phases 0 ≡ 1
FoundByApp setting words app (reads_text place from n) =
    ShowsCopy (loan_origin app.view place) from (text_in (part_of place from n) (lines_at setting.layout words.area (part_of place from n)))
FoundByApp setting words app (gives_lines place lines) = lines_at setting.layout words.area place ≡ lines
FoundByApp setting words app _ = Unit {0}

abbrev pub AppTakesLines : Setting → NicSide → List AppSide → AppWordStep → Type 0
AppTakesLines setting nic apps (takes_lines own len) = AreHome setting nic apps (begin_place own.buffer len)
AppTakesLines setting nic apps (reads_text place from n) = AreHome setting nic apps (part_of place from n)
AppTakesLines setting nic apps _ = Unit {0}

pub record AppStepStands (setting : Setting) (words : Words) (nic : NicSide) (apps : List AppSide) (app : AppSide) (step : AppWordStep) : Type 0 where
  pub finds : FoundByApp setting words app step
  pub lines : AppTakesLines setting nic apps step
  pub rule : BoardRule setting (app_words setting words app step) nic (slice_set apps app.view.app (app_after setting words app step))

abbrev pub AppLaw : Type 0
AppLaw =
    (setting : Setting) (words : Words) (nic : NicSide) (apps : List AppSide) (app : AppSide) (step : AppWordStep)
    → BoardRule setting words nic apps → IsApp apps app.view.app app → AppMay setting words app step → AppStepStands setting words nic apps app step
