-- What each event does to the pool count, the user counts and the free places of every buffer. Each law holds for all sides
-- that fit together, so of every board and of every buffer, and with `one_at` it says of the event's own buffer and of all
-- others at once.
use Rattle.std.specs.Prelude.{◌≡◌, ◌≢◌, ℕ, ◌+◌, ◌≤◌, Bool, false, true, ◌&&◌, if◌then◌else◌, nat_lt, List, [], ◌∷◌}
use Rattle.std.specs.Prelude.{◌++◌, length, nat_eq, ◌==◌, count_by, slice_index, slice_set}
use Rattle.zr_kinds.specs.declared.{place.{Place.{Place}, Note.{Note}}, ring.Rqe.{Rqe}}
use Rattle.area_layout.specs.Layout.{pool_buffers}
use Rattle.board_face.specs.NicCalls.{HasOwn, HasPiece}
use Rattle.board_face.specs.NicEvents.{cache_room, took, swept, placed, sent, sent_linear, gave_up, shut, passed_over, honoured, nic_saw, saw_leave, nic_ended}
use Rattle.board_face.specs.AppCalls.{HasHeld, HasLoan, HasSpare}
use Rattle.board_face.specs.AppEvents.{app_saw, took_note, took_linear, told_end, cut, released, lent, has_read, abandoned, gave, pushed_raw, came_to_rest}
use Rattle.board_face.specs.{AppEvents.{got_spare, filled, lent_own, fell_quiet, scrubbed, left_board}, Holders.{sent_to, on_way, owed_in}}
use Rattle.board_face.specs.{Counts.{pool_count, user_count, EndedWereReturned}, FreeOnce.{free_places}, Sides.{nic_at, IsApp, AreNumbered, apps_at}}
use Rattle.board_face.specs.declared.views.{parts.Filling.{Filling}, nic.{NicLook.{NicLook}, SentNote.{SentNote}, NicView.{NicView}, NicSide.{NicSide}}}
use Rattle.board_face.specs.declared.views.app.{AppLook.{AppLook}, AppView.{AppView}, AppSide.{AppSide}}

-- ---- sides and their counts

-- the sides of all roles of a board
pub record AllSides : Type 0 where
  pub nic : NicSide
  pub apps : List AppSide

-- the applications are numbered, none has taken more notes than were sent, none had more of its loans ended than it returned
pub record FitTogether (s : AllSides) : Type 0 where
  pub numbers : AreNumbered 0 s.apps
  pub taken : (a : ℕ) (app : AppSide) → IsApp s.apps a app → length app.view.taken ≤ length (sent_to a s.nic)
  pub ended : (a b : ℕ) (app : AppSide) → IsApp s.apps a app → EndedWereReturned b s.nic app

-- after an event of the card's view, or of an application's
abbrev pub by_card : AllSides → NicView → AllSides
by_card s v = record { nic = nic_at s.nic v; apps = s.apps }

abbrev pub by_app : AllSides → ℕ → AppSide → AppView → AllSides
by_app s a app v = record { nic = s.nic; apps = apps_at s.apps a app v }

abbrev pub pool_of : AllSides → ℕ → ℕ
pool_of s b = pool_count b s.nic s.apps

abbrev pub user_of : AllSides → ℕ → ℕ → ℕ
user_of s a b = user_count a b s.nic s.apps

-- in how many free places a buffer stands, on a board with this free list
abbrev pub free_of : (ℕ → Bool) → AllSides → ℕ → ℕ
free_of listed s b = free_places listed b s.nic s.apps

-- 1 for this buffer, and 0 for every other
abbrev pub one_at : ℕ → ℕ → ℕ
one_at buffer b = if buffer == b then 1 else 0

-- 1 for this application's count in this buffer, and 0 for every other
abbrev pub one_user : ℕ → ℕ → ℕ → ℕ → ℕ
one_user app buffer a b = if (app == a) && (buffer == b) then 1 else 0

-- ---- kinds of change

abbrev pub KeepsPool : AllSides → AllSides → Type 0
KeepsPool old new = (b : ℕ) → pool_of new b ≡ pool_of old b

abbrev pub RaisesPool : ℕ → AllSides → AllSides → Type 0
RaisesPool buffer old new = (b : ℕ) → pool_of new b ≡ pool_of old b + one_at buffer b

abbrev pub LowersPool : ℕ → AllSides → AllSides → Type 0
LowersPool buffer old new = (b : ℕ) → pool_of new b + one_at buffer b ≡ pool_of old b

abbrev pub KeepsUsers : AllSides → AllSides → Type 0
KeepsUsers old new = (a b : ℕ) → user_of new a b ≡ user_of old a b

abbrev pub RaisesUser : ℕ → ℕ → AllSides → AllSides → Type 0
RaisesUser app buffer old new = (a b : ℕ) → user_of new a b ≡ user_of old a b + one_user app buffer a b

abbrev pub LowersUser : ℕ → ℕ → AllSides → AllSides → Type 0
LowersUser app buffer old new = (a b : ℕ) → user_of new a b + one_user app buffer a b ≡ user_of old a b

abbrev pub KeepsFree : AllSides → AllSides → Type 0
KeepsFree old new = (listed : ℕ → Bool) (b : ℕ) → free_of listed new b ≡ free_of listed old b

-- the buffer left the cache
abbrev pub LeavesCache : ℕ → AllSides → AllSides → Type 0
LeavesCache buffer old new = (listed : ℕ → Bool) (b : ℕ) → free_of listed new b + one_at buffer b ≡ free_of listed old b

-- these buffers entered the cache
abbrev pub EnterCache : List ℕ → AllSides → AllSides → Type 0
EnterCache found old new = (listed : ℕ → Bool) (b : ℕ) → free_of listed new b ≡ free_of listed old b + count_by (nat_eq b) found

-- A pool buffer whose last reference went enters the cache where that has room. Where it has none the board lists it.
abbrev pub enters : AllSides → ℕ → Bool → Bool
enters s buffer last = (last && nat_lt buffer (pool_buffers s.nic.view.setting.layout)) && nat_lt (length s.nic.view.cache) cache_room

abbrev pub EntersCacheIfLast : Bool → ℕ → AllSides → AllSides → Type 0
EntersCacheIfLast last buffer old new =
    (listed : ℕ → Bool) (b : ℕ) → free_of listed new b ≡ free_of listed old b + (if enters old buffer last then one_at buffer b else 0)

-- no count and no free place of any buffer changed
pub record KeepsAll (old new : AllSides) : Type 0 where
  pub pool : KeepsPool old new
  pub users : KeepsUsers old new
  pub free : KeepsFree old new

-- the buffer has one holder more
pub record GainsHolder (buffer : ℕ) (old new : AllSides) : Type 0 where
  pub pool : RaisesPool buffer old new
  pub users : KeepsUsers old new
  pub free : KeepsFree old new

-- the buffer has one holder less
pub record LosesHolder (buffer : ℕ) (old new : AllSides) : Type 0 where
  pub pool : LowersPool buffer old new
  pub users : KeepsUsers old new
  pub free : KeepsFree old new

-- a reference of the application in the buffer is a user reference from now on
pub record GainsUser (app buffer : ℕ) (old new : AllSides) : Type 0 where
  pub pool : KeepsPool old new
  pub users : RaisesUser app buffer old new
  pub free : KeepsFree old new

-- ---- the card's calls

-- `take`: the buffer leaves the cache, and the card holds it
pub record TakesFromCache (buffer : ℕ) (old new : AllSides) : Type 0 where
  pub pool : RaisesPool buffer old new
  pub users : KeepsUsers old new
  pub free : LeavesCache buffer old new

abbrev pub TakeLaw : Type 0
TakeLaw =
    (s : AllSides) (buffer : ℕ) → s.nic.view.cache ≡ (took s.nic.view buffer).cache ++ buffer ∷ []
    → TakesFromCache buffer s (by_card s (took s.nic.view buffer))

-- `sweep`: what was found is cached, and nobody has it for that
pub record MovesToCache (found : List ℕ) (old new : AllSides) : Type 0 where
  pub pool : KeepsPool old new
  pub users : KeepsUsers old new
  pub free : EnterCache found old new

abbrev pub SweepLaw : Type 0
SweepLaw = (s : AllSides) (word : ℕ) (found : List ℕ) → MovesToCache found s (by_card s (swept s.nic.view word found))

abbrev pub PlaceLaw : Type 0
PlaceLaw = (s : AllSides) (own : Filling) (bytes : List ℕ) → HasOwn s.nic.view own → GainsHolder own.buffer s (by_card s (placed s.nic.view own bytes))

-- `send`: the piece's reference goes with the note, and an unsplit note has none
pub record SendLaw : Type 0 where
  pub split : (s : AllSides) → FitTogether s → (a : ℕ) (app : AppSide) → IsApp s.apps a app → (note : Note) → note.split ≡ true
      → HasPiece s.nic.view note.place → KeepsAll s (by_card s (sent s.nic.view a note))
  pub linear : (s : AllSides) → FitTogether s → (a : ℕ) (app : AppSide) → IsApp s.apps a app → (note : Note) → note.split ≡ false
      → (bytes : List ℕ) → KeepsAll s (by_card s (sent_linear s.nic.view a note bytes))

-- `shut`: the card's reference goes
pub record GivesUp (last : Bool) (buffer : ℕ) (old new : AllSides) : Type 0 where
  pub pool : LowersPool buffer old new
  pub users : KeepsUsers old new
  pub free : EntersCacheIfLast last buffer old new

abbrev pub ShutLaw : Type 0
ShutLaw = (s : AllSides) (own : Filling) (last : Bool) → HasOwn s.nic.view own → GivesUp last own.buffer s (by_card s (shut s.nic.view own last))

-- `entry`, honoured: a user reference of the application goes, and with it one of the pool
pub record GivesBack (last : Bool) (app buffer : ℕ) (old new : AllSides) : Type 0 where
  pub pool : LowersPool buffer old new
  pub users : LowersUser app buffer old new
  pub free : EntersCacheIfLast last buffer old new

abbrev pub HonourLaw : Type 0
HonourLaw =
    (s : AllSides) → FitTogether s → (a : ℕ) (app : AppSide) → IsApp s.apps a app → (entry : Rqe) (buffer : ℕ) (last : Bool)
    → 1 ≤ length (owed_in buffer s.nic app) → GivesBack last a buffer s (by_card s (gave_up (honoured s.nic.view a entry buffer) buffer last))

abbrev pub StrayLaw : Type 0
StrayLaw = (s : AllSides) (a : ℕ) (entry : Rqe) → KeepsAll s (by_card s (passed_over s.nic.view a entry))

-- all other events of the card
pub record CardKeeps : Type 0 where
  pub look : (s : AllSides) (look : NicLook) → KeepsAll s (by_card s (nic_saw s.nic.view look))
  pub leave : (s : AllSides) (a : ℕ) → KeepsAll s (by_card s (saw_leave s.nic.view a))
  pub end : (s : AllSides) → KeepsAll s (by_card s (nic_ended s.nic.view))

-- ---- an application's calls

-- the next note on its way to the application is this one
pub record IsNextNote (nic : NicSide) (app : AppSide) (note : Note) : Type 0 where
  pub next : SentNote
  pub rest : List SentNote
  pub way : on_way nic app ≡ next ∷ rest
  pub same : next.note ≡ note

-- `poll`: the note's reference is the held piece's from now on, and an unsplit note has none
pub record PollLaw : Type 0 where
  pub split : (s : AllSides) (a : ℕ) (app : AppSide) → IsApp s.apps a app → (note : Note) → note.split ≡ true
      → IsNextNote s.nic app note → KeepsAll s (by_app s a app (took_note app.view note))
  pub linear : (s : AllSides) (a : ℕ) (app : AppSide) → IsApp s.apps a app → (note : Note) → note.split ≡ false
      → IsNextNote s.nic app note → (bytes : List ℕ) → KeepsAll s (by_app s a app (took_linear app.view note bytes))

abbrev pub CutLaw : Type 0
CutLaw =
    (s : AllSides) (a : ℕ) (app : AppSide) → IsApp s.apps a app → (place : Place) (at : ℕ) → HasHeld app.view place
    → GainsHolder place.buffer s (by_app s a app (cut app.view place at))

abbrev pub LendLaw : Type 0
LendLaw =
    (s : AllSides) (a : ℕ) (app : AppSide) → IsApp s.apps a app → (place : Place) → HasHeld app.view place
    → GainsUser a place.buffer s (by_app s a app (lent app.view place))

-- `release`: a held piece's reference goes. Where it was the last of a pool buffer the board lists the buffer.
abbrev pub ReleaseLaw : Type 0
ReleaseLaw =
    (s : AllSides) (a : ℕ) (app : AppSide) → IsApp s.apps a app → (place : Place) → HasHeld app.view place
    → LosesHolder place.buffer s (by_app s a app (released app.view place))

-- `give` and `abandon`: what was lent is owed, with the references that it has
pub record GiveLaw : Type 0 where
  pub given : (s : AllSides) → FitTogether s → (a : ℕ) (app : AppSide) → IsApp s.apps a app → (place : Place)
      → HasLoan app.view place → KeepsAll s (by_app s a app (gave app.view place))
  pub abandoned : (s : AllSides) → FitTogether s → (a : ℕ) (app : AppSide) → IsApp s.apps a app → (place : Place)
      → HasLoan app.view place → KeepsAll s (by_app s a app (abandoned app.view place))

-- `spare`: the application holds the buffer. That the board listed it no more is the board's own.
abbrev pub SpareLaw : Type 0
SpareLaw = (s : AllSides) (a : ℕ) (app : AppSide) → IsApp s.apps a app → (buffer : ℕ)
    → GainsHolder buffer s (by_app s a app (got_spare app.view buffer))

abbrev pub FillLaw : Type 0
FillLaw =
    (s : AllSides) (a : ℕ) (app : AppSide) → IsApp s.apps a app → (own : Filling) (bytes : List ℕ) → HasSpare app.view own
    → KeepsAll s (by_app s a app (filled app.view own bytes))

abbrev pub LendOwnLaw : Type 0
LendOwnLaw =
    (s : AllSides) (a : ℕ) (app : AppSide) → IsApp s.apps a app → (own : Filling) → HasSpare app.view own
    → GainsUser a own.buffer s (by_app s a app (lent_own app.view own))

-- all other events of an application
pub record AppKeepsAll : Type 0 where
  pub look : (s : AllSides) (a : ℕ) (app : AppSide) → IsApp s.apps a app → (look : AppLook) → KeepsAll s (by_app s a app (app_saw app.view look))
  pub read : (s : AllSides) (a : ℕ) (app : AppSide) → IsApp s.apps a app → (place : Place) (from : ℕ) (bytes : List ℕ)
      → KeepsAll s (by_app s a app (has_read app.view place from bytes))
  pub raw : (s : AllSides) (a : ℕ) (app : AppSide) → IsApp s.apps a app → (entry : Rqe) → KeepsAll s (by_app s a app (pushed_raw app.view entry))
  pub settled : (s : AllSides) (a : ℕ) (app : AppSide) → IsApp s.apps a app → KeepsAll s (by_app s a app (came_to_rest app.view))
  pub quiet : (s : AllSides) (a : ℕ) (app : AppSide) → IsApp s.apps a app → KeepsAll s (by_app s a app (fell_quiet app.view))
  pub end : (s : AllSides) (a : ℕ) (app : AppSide) → IsApp s.apps a app → KeepsAll s (by_app s a app (told_end app.view))
  pub left : (s : AllSides) (a : ℕ) (app : AppSide) → IsApp s.apps a app → KeepsAll s (by_app s a app (left_board app.view))

-- ---- a scrub

-- the side of an application whose scrub took so much of each buffer in all
abbrev pub scrubbed_by : AppSide → List ℕ → AppSide
scrubbed_by app total = record { view = scrubbed app.view; inside = record app.inside { scrub_took = total } }

-- so many references were taken: all that the application still owed in each buffer
abbrev pub TookAll : NicSide → AppSide → List ℕ → Type 0
TookAll nic app total = (b : ℕ) → slice_index total b ≡ slice_index app.inside.scrub_took b + length (owed_in b nic app)

-- `scrub`: each of the application's user counts is 0, as many references went with it, and the others' stand
pub record Scrubs (app : ℕ) (old new : AllSides) : Type 0 where
  pub pool : (b : ℕ) → pool_of new b + user_of old app b ≡ pool_of old b
  pub own : (b : ℕ) → user_of new app b ≡ 0
  pub others : (a b : ℕ) → a ≢ app → user_of new a b ≡ user_of old a b
  pub free : KeepsFree old new

abbrev pub ScrubLaw : Type 0
ScrubLaw =
    (s : AllSides) → FitTogether s → (a : ℕ) (app : AppSide) → IsApp s.apps a app → app.view.loans ≡ [] → (total : List ℕ)
    → TookAll s.nic app total
    → Scrubs a s (record { nic = s.nic; apps = slice_set s.apps a (scrubbed_by app total) })
