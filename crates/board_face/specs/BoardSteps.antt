-- The steps of a board: each call that the card or an application makes is a value, which says what it makes of the sides (`apply`) and
-- where it can be made (`Can`). Its effect is the event of that name (NicEvents, AppEvents), on the view of the role that makes it.
-- Which holdings of a buffer end and begin by it, Holdings says.
--
-- | Step          | can be made where                                   | its effect              | modelled on                               |
-- | takes         | always                                              | `took`                  | page_pool: a buffer of the cache          |
-- | sweeps        | always                                              | `swept`                 | iou-zcrx: buffers of the area's free list |
-- | places        | the card fills the buffer (`HasOwn`)                | `placed`                | page_pool: a fragment                     |
-- | sends         | the piece is the card's (`HasPiece`), the note split| `sent`                  | iou-zcrx: a completion                    |
-- | sends_linear  | the note isn't split                                | `sent_linear`           | iou-zcrx: a completion of copied data     |
-- | shuts         | the card fills the buffer                           | `shut`                  | page_pool: its own reference is put       |
-- | honours       | the loan is the first owed there (`OwesFirst`)      | `honoured`, `gave_up`   | iou-zcrx: a refill entry                  |
-- | strays        | always                                              | `passed_over`           | iou-zcrx: one without a user reference    |
-- | looks, sees_leave, ends | always                                    | `nic_saw`, `saw_leave`, `nic_ended` |                               |
-- | polls         | the note is the next (`IsNextNote`), and split      | `took_note`             | iou-zcrx: a completion is taken           |
-- | polls_linear  | the note is the next, and not split                 | `took_linear`           | iou-zcrx: a completion is taken           |
-- | cuts          | the piece is held (`HasHeld`)                       | `cut`                   | page_pool: one reference more             |
-- | releases      | the piece is held                                   | `released`              | page_pool: a reference is put             |
-- | lends         | the piece is held                                   | `lent`                  | iou-zcrx: a user reference                |
-- | gives         | the loan is out (`HasLoan`)                         | `gave`                  | iou-zcrx: a refill entry is written       |
-- | abandons      | the loan is out                                     | `abandoned`             | iou-zcrx: a buffer that isn't given back  |
-- | pushes        | always                                              | `pushed_raw`            | iou-zcrx: a refill entry is written       |
-- | spares        | always                                              | `got_spare`             | iou-zcrx: a buffer to copy into           |
-- | fills         | the spare is the application's (`HasSpare`)         | `filled`                | iou-zcrx: data is copied                  |
-- | lends_own     | the spare is the application's                      | `lent_own`              | iou-zcrx: a user reference                |
-- | reads, settles, sees, is_told, falls_quiet, leaves | always         | `has_read`, `came_to_rest`, `app_saw`, `told_end`, `fell_quiet`, `left_board` | |
--
-- A step of an application needs besides that it is one of the board's (`IsApp`). A note that is sent and an entry that is honoured need
-- that all sides fit together (`FitTogether`), and a loan that comes back that no more of the application's loans were ended than came back
-- (`EndedWereReturned`). What changes more of a side than its view, as a scrub, is a step of FineSteps.
use Rattle.std.specs.Prelude.{⊤, ◌≡◌, ℕ, Bool, true, false, List, ◌∷◌}
use Rattle.zr_kinds.specs.declared.{place.{Place.{Place}, Note.{Note}}, ring.Rqe.{Rqe}}
use Rattle.board_face.specs.{Holders.{owed_in, returning_count}, Counts.{EndedWereReturned}, Sides.{IsApp, side_in}}
use Rattle.board_face.specs.{Laws.{AllSides, FitTogether, IsNextNote, by_card, by_app}, NicCalls.{HasOwn, HasPiece}, AppCalls.{HasHeld, HasLoan, HasSpare}}
use Rattle.board_face.specs.NicEvents.{took, swept, placed, sent, sent_linear, gave_up, shut, passed_over, honoured, nic_saw, saw_leave, nic_ended}
use Rattle.board_face.specs.AppEvents.{app_saw, took_note, took_linear, told_end, cut, released, lent, has_read, abandoned, gave, pushed_raw, came_to_rest}
use Rattle.board_face.specs.{AppEvents.{got_spare, filled, lent_own, fell_quiet, left_board}, declared.views.{parts.Filling.{Filling}, nic.NicLook.{NicLook}}}
use Rattle.board_face.specs.declared.views.{nic.{NicView.{NicView}, NicSide.{NicSide}}, app.{AppLook.{AppLook}, AppView.{AppView}, AppSide.{AppSide}}}

-- a call of the card
pub data CardStep : Type 0 where
  takes : ℕ → CardStep
  sweeps : ℕ → List ℕ → CardStep
  places : Filling → List ℕ → CardStep
  sends : ℕ → Note → CardStep
  sends_linear : ℕ → Note → List ℕ → CardStep
  shuts : Filling → Bool → CardStep
  -- an entry of an application is honoured, by which the loan that lay there is owed no more
  honours : ℕ → Rqe → Place → Bool → CardStep
  strays : ℕ → Rqe → CardStep
  looks : NicLook → CardStep
  sees_leave : ℕ → CardStep
  ends : CardStep

-- a call of an application
pub data AppStep : Type 0 where
  polls : Note → AppStep
  polls_linear : Note → List ℕ → AppStep
  cuts : Place → ℕ → AppStep
  releases : Place → AppStep
  lends : Place → AppStep
  reads : Place → ℕ → List ℕ → AppStep
  gives : Place → AppStep
  abandons : Place → AppStep
  pushes : Rqe → AppStep
  settles : AppStep
  spares : ℕ → AppStep
  fills : Filling → List ℕ → AppStep
  lends_own : Filling → AppStep
  sees : AppLook → AppStep
  is_told : AppStep
  falls_quiet : AppStep
  leaves : AppStep

-- a call of either, an application's with its number
pub data Step : Type 0 where
  card : CardStep → Step
  app : ℕ → AppStep → Step

-- ---- what each makes of a view

abbrev pub card_view : CardStep → NicView → NicView
card_view (takes b) v = took v b
card_view (sweeps word found) v = swept v word found
card_view (places own bytes) v = placed v own bytes
card_view (sends a note) v = sent v a note
card_view (sends_linear a note bytes) v = sent_linear v a note bytes
card_view (shuts own last) v = shut v own last
card_view (honours a entry p last) v = gave_up (honoured v a entry p.buffer) p.buffer last
card_view (strays a entry) v = passed_over v a entry
card_view (looks look) v = nic_saw v look
card_view (sees_leave a) v = saw_leave v a
card_view ends v = nic_ended v

abbrev pub app_view : AppStep → AppView → AppView
app_view (polls note) v = took_note v note
app_view (polls_linear note bytes) v = took_linear v note bytes
app_view (cuts p n) v = cut v p n
app_view (releases p) v = released v p
app_view (lends p) v = lent v p
app_view (reads p from bytes) v = has_read v p from bytes
app_view (gives p) v = gave v p
app_view (abandons p) v = abandoned v p
app_view (pushes entry) v = pushed_raw v entry
app_view settles v = came_to_rest v
app_view (spares b) v = got_spare v b
app_view (fills own bytes) v = filled v own bytes
app_view (lends_own own) v = lent_own v own
app_view (sees look) v = app_saw v look
app_view is_told v = told_end v
app_view falls_quiet v = fell_quiet v
app_view leaves v = left_board v

abbrev pub apply : Step → AllSides → AllSides
apply (card step) s = by_card s (card_view step s.nic.view)
apply (app a step) s = by_app s a (side_in s.apps a) (app_view step (side_in s.apps a).view)

-- ---- when it can be made

-- the loan that lay there is the first that the application owes in its buffer, and no return is on its way there
pub record OwesFirst (p : Place) (nic : NicSide) (x : AppSide) : Type 0 where
  pub rest : List Place
  pub owes : owed_in p.buffer nic x ≡ p ∷ rest
  pub idle : returning_count p.buffer nic x ≡ 0

abbrev pub CardCan : CardStep → AllSides → Type 0
CardCan (places own bytes) s = HasOwn s.nic.view own
CardCan (sends a note) s = FitTogether s × IsApp s.apps a (side_in s.apps a) × (note.split ≡ true) × HasPiece s.nic.view note.place
CardCan (sends_linear a note bytes) s = FitTogether s × IsApp s.apps a (side_in s.apps a) × (note.split ≡ false)
CardCan (shuts own last) s = HasOwn s.nic.view own
CardCan (honours a entry p last) s = FitTogether s × IsApp s.apps a (side_in s.apps a) × OwesFirst p s.nic (side_in s.apps a)
CardCan step s = ⊤

abbrev pub AppCan : AppStep → NicSide → AppSide → Type 0
AppCan (polls note) nic x = (note.split ≡ true) × IsNextNote nic x note
AppCan (polls_linear note bytes) nic x = (note.split ≡ false) × IsNextNote nic x note
AppCan (cuts p n) nic x = HasHeld x.view p
AppCan (releases p) nic x = HasHeld x.view p
AppCan (lends p) nic x = HasHeld x.view p
AppCan (gives p) nic x = HasLoan x.view p × ((b : ℕ) → EndedWereReturned b nic x)
AppCan (abandons p) nic x = HasLoan x.view p × ((b : ℕ) → EndedWereReturned b nic x)
AppCan (fills own bytes) nic x = HasSpare x.view own
AppCan (lends_own own) nic x = HasSpare x.view own
AppCan step nic x = ⊤

abbrev pub Can : Step → AllSides → Type 0
Can (card step) s = CardCan step s
Can (app a step) s = IsApp s.apps a (side_in s.apps a) × AppCan step s.nic (side_in s.apps a)
