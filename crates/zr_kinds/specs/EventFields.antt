-- What an event says of the bytes that it names and of the counts behind it.
use Rattle.std.specs.Prelude.{ℕ}
use Rattle.zr_kinds.specs.declared.event.Event.{Event}
use Rattle.zr_kinds.specs.declared.event.Event.TheVariants as event

-- the offset and the length of the bytes that an event names
abbrev pub bytes_of_event : Event → ℕ × ℕ
bytes_of_event (event.Place b o l p) = (o, l)
bytes_of_event (event.Sent a b o l) = (o, l)
bytes_of_event (event.Held a b o l) = (o, l)
bytes_of_event (event.Cut a b o l m p) = (o, l)
bytes_of_event (event.Lend a b o l p u) = (o, l)
bytes_of_event (event.Back a b o l u) = (o, l)
bytes_of_event (event.Free a b o l p) = (o, l)
bytes_of_event (event.Own a b l p u) = (0, l)
bytes_of_event other = (0, 0)

-- the pool count and the user count that an event says, of which one that it doesn't say is 0
abbrev pub counts_of : Event → ℕ × ℕ
counts_of (event.Take b p) = (p, 0)
counts_of (event.Place b o l p) = (p, 0)
counts_of (event.Cut a b o l m p) = (p, 0)
counts_of (event.Lend a b o l p u) = (p, u)
counts_of (event.Back a b o l u) = (0, u)
counts_of (event.Honour a b p u) = (p, u)
counts_of (event.Free a b o l p) = (p, 0)
counts_of (event.Spare a b p) = (p, 0)
counts_of (event.Own a b l p u) = (p, u)
counts_of (event.Shut b p) = (p, 0)
counts_of (event.Scrub a b p u) = (p, u)
counts_of other = (0, 0)
