-- Which events the log of a board tells of a step: mostly one, with the counts behind the step.
use Rattle.std.specs.Prelude.{◌≡◌, ℕ, ◌+◌, ◌<◌, ◌≤◌, List, [], ◌∷◌, length, ⊤}
use Rattle.area_layout.specs.Layout.{pool_buffers}
use Rattle.zr_kinds.specs.declared.event.Event.{Event}
use Rattle.zr_kinds.specs.declared.event.Event.TheVariants as event
use Rattle.board_face.specs.BoardSteps.{CardStep, AppStep, Step, card, app, takes, places, sends, shuts, honours, strays}
use Rattle.board_face.specs.BoardSteps.{polls, cuts, releases, lends, gives, abandons, spares, fills, lends_own}
use Rattle.board_face.specs.{AppCalls.{IsFilled}, AppEvents.{own_bytes}, Laws.{AllSides, pool_of, user_of}, OwnBuffers.{IsOwnBuffer}, Sides.{IsApp, side_in}}
use Rattle.board_face.specs.declared.views.app.AppView.{AppView}

-- with the sides behind the step
abbrev pub card_events : CardStep → AllSides → List Event
card_events (takes b) new = event.Take b (pool_of new b) ∷ []
card_events (places own bytes) new = event.Place own.buffer own.start (length bytes) (pool_of new own.buffer) ∷ []
card_events (sends a note) new = event.Sent a note.place.buffer note.place.offset note.place.len ∷ []
card_events (shuts own last) new = event.Shut own.buffer (pool_of new own.buffer) ∷ []
card_events (honours a entry p last) new = event.Honour a p.buffer (pool_of new p.buffer) (user_of new a p.buffer) ∷ []
card_events (strays a entry) new = event.Stray a ∷ []
card_events step new = []

-- with the application's view before the step
abbrev pub app_events : ℕ → AppStep → AppView → AllSides → List Event
app_events a (polls note) v new = event.Held a note.place.buffer note.place.offset note.place.len ∷ []
app_events a (cuts p n) v new = event.Cut a p.buffer p.offset p.len n (pool_of new p.buffer) ∷ []
app_events a (releases p) v new = event.Free a p.buffer p.offset p.len (pool_of new p.buffer) ∷ []
app_events a (lends p) v new = event.Lend a p.buffer p.offset p.len (pool_of new p.buffer) (user_of new a p.buffer) ∷ []
app_events a (gives p) v new = event.Back a p.buffer p.offset p.len (user_of new a p.buffer) ∷ []
app_events a (abandons p) v new = event.Back a p.buffer p.offset p.len (user_of new a p.buffer) ∷ []
app_events a (spares b) v new = event.Spare a b (pool_of new b) ∷ []
app_events a (lends_own own) v new =
    event.Own a own.buffer (length (own_bytes v own)) (pool_of new own.buffer) (user_of new a own.buffer) ∷ []
app_events a step v new = []

abbrev pub events_of : Step → AllSides → AllSides → List Event
events_of (card step) old new = card_events step new
events_of (app a step) old new = app_events a step (side_in old.apps a).view new

-- What a step needs, beside that it can be made, to be told truly: what is taken or given is the role's to have and nobody has it,
-- no text is empty, each fits, and a stray entry is of one of the board's applications.
abbrev pub MayTell : Step → AllSides → Type 0
MayTell (card (takes b)) s = (b < pool_buffers s.nic.view.setting.layout) × (pool_of s b ≡ 0)
MayTell (card (places own bytes)) s = (0 < length bytes) × (own.start + length bytes ≤ own.size)
MayTell (card (strays a entry)) s = IsApp s.apps a (side_in s.apps a)
MayTell (app a (cuts p n)) s = (0 < n) × (n < p.len)
MayTell (app a (spares b)) s = IsOwnBuffer (side_in s.apps a).view b × (pool_of s b ≡ 0)
MayTell (app a (fills own bytes)) s = length bytes ≤ 256
MayTell (app a (lends_own own)) s = IsFilled (side_in s.apps a).view own
MayTell step s = ⊤
