-- A log of events with a room: the first events, and whether these are all. Once it had no room for one it takes no other.
use Rattle.std.specs.Prelude.{ℕ, ◌≡◌, ◌&&◌, Bool, false, if◌then◌else◌, List, [], ◌∷◌, ◌++◌, length, take, nat_lt, nat_le}
use Rattle.zr_kinds.specs.declared.event.Event.{Event}

pub record KeptEvents : Type 0 where
  pub events : List Event
  pub whole : Bool
  pub room : ℕ

abbrev pub has_room : KeptEvents → Bool
has_room kept = kept.whole && nat_lt (length kept.events) kept.room

-- the log behind one event more
abbrev pub logged : KeptEvents → Event → KeptEvents
logged kept e = if has_room kept then record kept { events = kept.events ++ e ∷ [] } else record kept { whole = false }

-- the log behind these events more, in order
abbrev pub all_logged : KeptEvents → List Event → KeptEvents
all_logged kept [] = kept
all_logged kept (e ∷ events) = all_logged (logged kept e) events

-- the log of all these events
abbrev pub log_of : ℕ → List Event → KeptEvents
log_of room events = record { events = take room events; whole = nat_le (length events) room; room = room }

abbrev pub FirstEventsLaw : Type 0
FirstEventsLaw = (room : ℕ) (events : List Event) (e : Event) → logged (log_of room events) e ≡ log_of room (events ++ e ∷ [])
