-- Which holdings end and begin by each step of a board, and what all holdings of a buffer weigh, whatever each weighs.
use Rattle.board_face.specs.Places.{kind_place}
use Rattle.std.specs.Prelude.{nat_lt, ⊤, ◌≡◌, ℕ, ◌+◌, ◌==◌, ◌<◌, if◌then◌else◌, List, [], ◌∷◌, length, filter}
use Rattle.zr_kinds.specs.declared.place.Place.{Place}
use Rattle.board_face.specs.{Tokens.{filled_by, next_place}, Texts.{front_place, rest_place}, Holders.{Kind, on_way, owed_in, returning_in, making_places}}
use Rattle.board_face.specs.Holders as kind
use Rattle.board_face.specs.{Counts.{is_user_kind}, Fillings.{IsFilledByOne}, Sides.{side_in}, Laws.{AllSides, pool_of, user_of}, NicEvents.{fresh}}
use Rattle.area_layout.specs.Layout.{all_buffers as total_buffers}
use Rattle.board_face.specs.{AppEvents.{own_bytes, begin_place}, declared.views.{parts.Filling.{Filling}, nic.{NicView.{NicView}, NicSide.{NicSide}}}}
use Rattle.board_face.specs.{declared.views.app.{AppView.{AppView}, AppSide.{AppSide}}, Lists.{total, one_if as one}}
use Rattle.board_face.specs.BoardSteps.{CardStep, AppStep, Step, apply, Can, takes, places, sends, shuts, honours, polls, cuts, releases, lends, gives, abandons, spares, fills, lends_own, card, app}

-- a holding, with all that a weight may look at
pub data Hold : Type 0 where
  own : Filling → Hold
  piece : Place → Hold
  sent_to : ℕ → Place → Hold
  held : ℕ → Place → Hold
  -- the filling of a spare, and with how many bytes it was filled
  spare : ℕ → Filling → ℕ → Hold
  loan : ℕ → Place → Hold
  owed : ℕ → Place → Hold
  returning : ℕ → Place → Hold

-- the buffer in which it lies
abbrev pub buffer_of : Hold → ℕ
buffer_of (own o) = o.buffer
buffer_of (piece p) = p.buffer
buffer_of (sent_to a p) = p.buffer
buffer_of (held a p) = p.buffer
buffer_of (spare a o n) = o.buffer
buffer_of (loan a p) = p.buffer
buffer_of (owed a p) = p.buffer
buffer_of (returning a p) = p.buffer

-- so much in this buffer, and nothing in any other
abbrev pub here : ℕ → ℕ → ℕ → ℕ
here b buffer n = if buffer == b then n else 0

-- what some holdings weigh in a buffer
abbrev pub weight_in : (Hold → ℕ) → ℕ → List Hold → ℕ
weight_in w b holds = total (λ h. here b (buffer_of h) (w h)) holds

-- what the card's holdings of a buffer weigh
abbrev pub card_weight : (Hold → ℕ) → ℕ → NicSide → ℕ
card_weight w b nic =
    total (λ o. here b o.buffer (w (own o))) nic.view.owns
    + (total (λ p. here b p.place.buffer (w (piece p.place))) nic.view.pieces + total (λ p. here b p.buffer (w (piece p))) (making_places nic.inside.making))

-- the pieces on their way to an application
abbrev pub way_weight : (Hold → ℕ) → ℕ → NicSide → AppSide → ℕ
way_weight w b nic x =
    total (λ s. here b s.note.place.buffer (w (sent_to x.view.app s.note.place))) (filter (λ s. s.note.split) (on_way nic x))

-- its loans that came back
abbrev pub ended_weight : (Hold → ℕ) → ℕ → NicSide → AppSide → ℕ
ended_weight w b nic x = total (λ p. w (owed x.view.app p)) (owed_in b nic x) + total (λ p. w (returning x.view.app p)) (returning_in b nic x)

-- and all that is held for it
abbrev pub app_weight : (Hold → ℕ) → ℕ → NicSide → AppSide → ℕ
app_weight w b nic x =
    way_weight w b nic x
    + (total (λ h. here b h.place.buffer (w (held x.view.app h.place))) x.view.helds
    + (total (λ s. here b s.own.buffer (w (spare x.view.app s.own (length s.bytes)))) x.view.owns
    + (total (λ l. here b l.place.buffer (w (loan x.view.app l.place))) x.view.loans + ended_weight w b nic x)))

-- all holdings of a buffer
abbrev pub weigh : (Hold → ℕ) → ℕ → AllSides → ℕ
weigh w b s = card_weight w b s.nic + total (app_weight w b s.nic) s.apps

-- ---- which holdings end by a step, and which begin

abbrev pub card_ends : CardStep → List Hold
card_ends (places it bytes) = own it ∷ []
card_ends (sends a note) = piece note.place ∷ []
card_ends (shuts it last) = own it ∷ []
card_ends (honours a entry p last) = owed a p ∷ []
card_ends step = []

abbrev pub card_begins : CardStep → NicView → List Hold
card_begins (takes b) v = own (fresh v.setting b) ∷ []
card_begins (places it bytes) v = own (filled_by it (length bytes)) ∷ piece (next_place it (length bytes)) ∷ []
card_begins (sends a note) v = sent_to a note.place ∷ []
card_begins step v = []

abbrev pub app_ends : ℕ → AppStep → AppView → List Hold
app_ends a (polls note) v = sent_to a note.place ∷ []
app_ends a (cuts p n) v = held a p ∷ []
app_ends a (releases p) v = held a p ∷ []
app_ends a (lends p) v = held a p ∷ []
app_ends a (gives p) v = loan a p ∷ []
app_ends a (abandons p) v = loan a p ∷ []
app_ends a (fills it bytes) v = spare a it (length (own_bytes v it)) ∷ []
app_ends a (lends_own it) v = spare a it (length (own_bytes v it)) ∷ []
app_ends a step v = []

abbrev pub app_begins : ℕ → AppStep → AppView → List Hold
app_begins a (polls note) v = held a note.place ∷ []
app_begins a (cuts p n) v = held a (front_place p n) ∷ held a (rest_place p n) ∷ []
app_begins a (lends p) v = loan a p ∷ []
app_begins a (gives p) v = owed a p ∷ []
app_begins a (abandons p) v = owed a p ∷ []
app_begins a (spares b) v = spare a (fresh v.setting b) 0 ∷ []
app_begins a (fills it bytes) v = spare a (filled_by it (length bytes)) (length bytes) ∷ []
app_begins a (lends_own it) v = loan a (begin_place it.buffer (length (own_bytes v it))) ∷ []
app_begins a step v = []

abbrev pub ends_by : Step → AllSides → List Hold
ends_by (card step) s = card_ends step
ends_by (app a step) s = app_ends a step (side_in s.apps a).view

abbrev pub begins_by : Step → AllSides → List Hold
begins_by (card step) s = card_begins step s.nic.view
begins_by (app a step) s = app_begins a step (side_in s.apps a).view

-- The holdings of each buffer after a step are those before it but for the ended ones, and the begun ones.
abbrev pub ExchangeLaw : Type 0
ExchangeLaw =
    (step : Step) (s : AllSides) → Can step s → (w : Hold → ℕ) (b : ℕ)
    → weigh w b (apply step s) + weight_in w b (ends_by step s) ≡ weigh w b s + weight_in w b (begins_by step s)

-- ---- counts

-- the kind of holder that it is
abbrev pub kind_of : Hold → Kind
kind_of (own o) = kind.own
kind_of (piece p) = kind.piece p
kind_of (sent_to a p) = kind.sent a p
kind_of (held a p) = kind.held a p
kind_of (spare a o n) = kind.spare a
kind_of (loan a p) = kind.loan a p
kind_of (owed a p) = kind.owed a p
kind_of (returning a p) = kind.returning a p

-- where a holding lies, that of a filled spare too
abbrev pub hold_place : Hold → List Place
hold_place (spare a o n) = if nat_lt 0 n then begin_place o.buffer n ∷ [] else []
hold_place h = kind_place (kind_of h)

-- what counts as a user of this application
abbrev pub used : ℕ → Hold → ℕ
used a h = one (is_user_kind a (kind_of h))

-- The pool count and every user count of each buffer go by the holdings that end and begin.
pub record CountsBy (ends begins : List Hold) (old new : AllSides) : Type 0 where
  pub pool : (b : ℕ) → pool_of new b + weight_in (λ h. 1) b ends ≡ pool_of old b + weight_in (λ h. 1) b begins
  pub users : (a b : ℕ) → user_of new a b + weight_in (used a) b ends ≡ user_of old a b + weight_in (used a) b begins

abbrev pub CountsLaw : Type 0
CountsLaw = (step : Step) (s : AllSides) → Can step s → CountsBy (ends_by step s) (begins_by step s) s (apply step s)

-- What is taken or given as a spare is in the area, and nobody has it.
abbrev pub IsFresh : AllSides → ℕ → Type 0
IsFresh s b = (pool_of s b ≡ 0) × (b < total_buffers s.nic.view.setting.layout)

abbrev pub BeginsFresh : Step → AllSides → Type 0
BeginsFresh (card (takes b)) s = IsFresh s b
BeginsFresh (app a (spares b)) s = IsFresh s b
BeginsFresh step s = ⊤

-- A buffer stays filled by one at most, whatever the step.
abbrev pub FilledLaw : Type 0
FilledLaw =
    (step : Step) (s : AllSides) → Can step s → BeginsFresh step s → (b : ℕ) → IsFilledByOne b s.nic s.apps
    → IsFilledByOne b (apply step s).nic (apply step s).apps
