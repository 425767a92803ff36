-- What the events of a run tell of each application's loans and copies, and of what the card did, in order.
use Rattle.std.specs.{Prelude.{◌≡◌, ℕ, ◌+◌, ◌==◌, if◌then◌else◌, Bool, true, false, Option, Some, None, List, [], ◌∷◌, length, map, count_by}, List.{sum_by, flat_map}}
use Rattle.zr_kinds.specs.declared.{place.Place.{Place}, event.Event.{Event}}
use Rattle.zr_kinds.specs.declared.event.Event.TheVariants as event
use Rattle.board_face.specs.{Laws.{AllSides}, Sides.{IsApp}, declared.views.nic.{Fate.{Fate}, Dealt.{Dealt}, NicView.{NicView}, SentNote.{SentNote}}}
use Rattle.board_face.specs.declared.views.app.{LentPiece.{LentPiece}, TakenNote.{TakenNote}, AppView.{AppView}, AppSide.{AppSide}}
use Rattle.board_face.specs.declared.views.nic.Fate.TheVariants as fate

-- ---- of one event

-- a loan of the application begins by it
abbrev pub is_loan : ℕ → Event → Bool
is_loan a (event.Lend app b o l p u) = app == a
is_loan a (event.Own app b l p u) = app == a
is_loan a other = false

-- a loan of bytes that the application copied
abbrev pub is_copy_event : ℕ → Event → Bool
is_copy_event a (event.Own app b l p u) = app == a
is_copy_event a other = false

-- how many bytes it lends to the application
abbrev pub loan_bytes : ℕ → Event → ℕ
loan_bytes a (event.Lend app b o l p u) = if app == a then l else 0
loan_bytes a (event.Own app b l p u) = if app == a then l else 0
loan_bytes a other = 0

abbrev pub is_stray_event : Event → Bool
is_stray_event (event.Stray a) = true
is_stray_event other = false

-- the application took a note whose piece lies there
abbrev pub holds_of : ℕ → Event → List Place
holds_of a (event.Held app b o l) = if app == a then record { buffer = b; offset = o; len = l } ∷ [] else []
holds_of a other = []

-- it returned the loan that lies there
abbrev pub returns_of : ℕ → Event → List Place
returns_of a (event.Back app b o l u) = if app == a then record { buffer = b; offset = o; len = l } ∷ [] else []
returns_of a other = []

-- it was given a spare
abbrev pub is_spare : ℕ → Event → Bool
is_spare a (event.Spare app b p) = app == a
is_spare a other = false

-- the buffer that the card took by it
abbrev pub takes_of : Event → List ℕ
takes_of (event.Take buffer p) = buffer ∷ []
takes_of other = []

-- to whom the card sent a note by it, and with the piece at which place
abbrev pub sends_of : Event → List (ℕ × Place)
sends_of (event.Sent a b o l) = (a, record { buffer = b; offset = o; len = l }) ∷ []
sends_of other = []

-- whose entry the card dealt with by it, and for which buffer the entry was honoured
abbrev pub deals_of : Event → List (ℕ × Option ℕ)
deals_of (event.Honour a buffer p u) = (a, Some buffer) ∷ []
deals_of (event.Stray a) = (a, None) ∷ []
deals_of other = []

-- ---- of all events

abbrev pub loans_in : ℕ → List Event → ℕ
loans_in a events = count_by (is_loan a) events

abbrev pub copies_in : ℕ → List Event → ℕ
copies_in a events = count_by (is_copy_event a) events

abbrev pub bytes_lent_in : ℕ → List Event → ℕ
bytes_lent_in a events = sum_by (loan_bytes a) events

abbrev pub stray_events_in : List Event → ℕ
stray_events_in events = count_by is_stray_event events

-- ---- what the sides say

abbrev pub len_of_loan : LentPiece → ℕ
len_of_loan loan = loan.place.len

abbrev pub was_stray : Fate → Bool
was_stray fate.Stray = true
was_stray (fate.Honoured buffer) = false

abbrev pub strays_of : List Dealt → ℕ
strays_of dealt = count_by (λ d. was_stray d.fate) dealt

-- a note that was taken with a piece
abbrev pub taken_as : TakenNote → List Place
taken_as t = if t.note.split then t.note.place ∷ [] else []

abbrev pub place_of_loan : LentPiece → Place
place_of_loan loan = loan.place

-- The events tell, in order, which pieces an application took and which loans it returned, and how many spares it was given.
pub record TellsApp (a : ℕ) (v : AppView) (events : List Event) : Type 0 where
  pub holds : flat_map (holds_of a) events ≡ flat_map taken_as v.taken
  pub returns : flat_map (returns_of a) events ≡ map place_of_loan v.returned
  pub spares : count_by (is_spare a) events ≡ v.spares

-- a note that was sent with a piece
abbrev pub sent_as : SentNote → List (ℕ × Place)
sent_as n = if n.note.split then (n.app, n.note.place) ∷ [] else []

abbrev pub buffer_of_fate : Fate → Option ℕ
buffer_of_fate fate.Stray = None
buffer_of_fate (fate.Honoured buffer) = Some buffer

abbrev pub dealt_as : Dealt → ℕ × Option ℕ
dealt_as d = (d.app, buffer_of_fate d.fate)

-- The events tell, in order, which buffers the card took, which pieces it sent to whom, and what became of whose entries.
pub record TellsCard (v : NicView) (events : List Event) : Type 0 where
  pub takes : flat_map takes_of events ≡ v.used
  pub sends : flat_map sends_of events ≡ flat_map sent_as v.sent
  pub deals : flat_map deals_of events ≡ map dealt_as v.dealt

-- The loans of an application that began are those that it has out and those that it returned, with all their bytes; and
-- each spare that it was given it has still, or it lent it.
pub record IsTallied (a : ℕ) (v : AppView) (events : List Event) : Type 0 where
  pub loans : loans_in a events ≡ length v.loans + length v.returned
  pub bytes : bytes_lent_in a events ≡ sum_by len_of_loan v.loans + sum_by len_of_loan v.returned
  pub copies : copies_in a events + length v.owns ≡ v.spares
  pub lists : TellsApp a v events

pub record AreTallied (s : AllSides) (events : List Event) : Type 0 where
  pub apps : (a : ℕ) (app : AppSide) → IsApp s.apps a app → IsTallied a app.view events
  pub strays : stray_events_in events ≡ strays_of s.nic.view.dealt
  pub card : TellsCard s.nic.view events
