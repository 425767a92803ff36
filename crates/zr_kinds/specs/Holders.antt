-- The holders of each buffer, and what an event of a run changes in them. A holder is one entry of its buffer's list; the
-- list's order says nothing.
use Rattle.std.specs.Prelude.{ℕ, ◌+◌, ◌-◌, ◌%◌, ◌==◌, ◌&&◌, ◌||◌, nat_lt, nat_le, not, if◌then◌else◌, Bool, true, false, List, [], ◌∷◌, ◌++◌}
use Rattle.std.specs.{Prelude.{length, filter, count_by, Option, Some, None, option_map, option_and_then}, List.{list_any, list_all}}
use Rattle.zr_kinds.specs.{declared.{event.Event.{Event}, holding.Holding.{Holding}}, Setting.{Setting, buffers_of_areas, total_buffers, size_of_buffer}}
use Rattle.zr_kinds.specs.declared.event.Event.TheVariants as event
use Rattle.zr_kinds.specs.declared.holding.Holding.TheVariants as holding

-- ---- which holder

abbrev pub is_same : Holding → Holding → Bool
is_same holding.Own holding.Own = true
is_same (holding.Piece o l) (holding.Piece p m) = (o == p) && (l == m)
is_same (holding.Sent a o l) (holding.Sent b p m) = (a == b) && (o == p) && (l == m)
is_same (holding.Held a o l) (holding.Held b p m) = (a == b) && (o == p) && (l == m)
is_same (holding.Spare a) (holding.Spare b) = a == b
is_same (holding.Loan a o l) (holding.Loan b p m) = (a == b) && (o == p) && (l == m)
is_same (holding.Owed a) (holding.Owed b) = a == b
is_same one other = false

-- what the user count of an application and a buffer counts
abbrev pub is_user : ℕ → Holding → Bool
is_user app (holding.Loan a o l) = a == app
is_user app (holding.Owed a) = a == app
is_user app other = false

abbrev pub are_apart : ℕ → ℕ → ℕ → ℕ → Bool
are_apart offset len other_offset other_len = nat_le (offset + len) other_offset || nat_le (other_offset + other_len) offset

-- the holder's bytes, if it has any, are none of these
abbrev pub is_apart : ℕ → ℕ → Holding → Bool
is_apart offset len (holding.Piece o l) = are_apart offset len o l
is_apart offset len (holding.Sent a o l) = are_apart offset len o l
is_apart offset len (holding.Held a o l) = are_apart offset len o l
is_apart offset len (holding.Loan a o l) = are_apart offset len o l
is_apart offset len other = true

-- what holders weigh together: where it is the same whatever each weighs, they are the same holders, each as often, in any order
abbrev pub weight : (Holding → ℕ) → List Holding → ℕ
weight weigh [] = 0
weight weigh (first ∷ held) = weigh first + weight weigh held

-- ---- what an event names

abbrev pub buffer_of_event : Event → Option ℕ
buffer_of_event (event.Take b p) = Some b
buffer_of_event (event.Place b o l p) = Some b
buffer_of_event (event.Sent a b o l) = Some b
buffer_of_event (event.Held a b o l) = Some b
buffer_of_event (event.Cut a b o l m p) = Some b
buffer_of_event (event.Lend a b o l p u) = Some b
buffer_of_event (event.Back a b o l u) = Some b
buffer_of_event (event.Honour a b p u) = Some b
buffer_of_event (event.Stray a) = None
buffer_of_event (event.Free a b o l p) = Some b
buffer_of_event (event.Spare a b p) = Some b
buffer_of_event (event.Own a b l p u) = Some b
buffer_of_event (event.Shut b p) = Some b
buffer_of_event (event.Scrub a b p u) = Some b

-- an application and a buffer that there are, and bytes that the buffer has
abbrev pub is_app : Setting → ℕ → Bool
is_app setting app = nat_lt app setting.apps

abbrev pub is_buffer : Setting → ℕ → Bool
is_buffer setting buffer = nat_lt buffer (total_buffers setting)

abbrev pub is_within : Setting → ℕ → ℕ → ℕ → Bool
is_within setting buffer offset len = is_buffer setting buffer && nat_le (offset + len) (size_of_buffer setting.areas buffer)

abbrev pub is_pool_buffer : Setting → ℕ → Bool
is_pool_buffer setting buffer = nat_lt buffer (buffers_of_areas setting.areas)

abbrev pub is_reserve_of : Setting → ℕ → ℕ → Bool
is_reserve_of setting app buffer = buffer == buffers_of_areas setting.areas + app

-- the numbers of an event are in the setting's ranges
abbrev pub is_in_range : Setting → Event → Bool
is_in_range s (event.Take b p) = is_buffer s b
is_in_range s (event.Place b o l p) = is_within s b o l
is_in_range s (event.Sent a b o l) = is_app s a && is_within s b o l
is_in_range s (event.Held a b o l) = is_app s a && is_within s b o l
is_in_range s (event.Cut a b o l m p) = is_app s a && is_within s b o l
is_in_range s (event.Lend a b o l p u) = is_app s a && is_within s b o l
is_in_range s (event.Back a b o l u) = is_app s a && is_within s b o l
is_in_range s (event.Honour a b p u) = is_app s a && is_buffer s b
is_in_range s (event.Stray a) = is_app s a
is_in_range s (event.Free a b o l p) = is_app s a && is_within s b o l
is_in_range s (event.Spare a b p) = is_app s a && is_buffer s b
is_in_range s (event.Own a b l p u) = is_app s a && is_within s b 0 l
is_in_range s (event.Shut b p) = is_buffer s b
is_in_range s (event.Scrub a b p u) = is_app s a && is_buffer s b

-- ---- what an event needs and changes

-- where the test holds
abbrev pub only_if : {A : Type 0} → Bool → Option A → Option A
only_if test value = if test then value else None

-- the list with these in place of the first such holder, where there is one
abbrev pub becomes : Holding → List Holding → List Holding → Option (List Holding)
becomes old these [] = None
becomes old these (first ∷ others) =
    if is_same old first then Some (these ++ others) else option_map (λ rest. first ∷ rest) (becomes old these others)

-- the holders of its buffer after an event, where the holders before it are what the event needs
abbrev pub changed : Setting → List Holding → Event → Option (List Holding)
changed s held (event.Take b p) = only_if (is_pool_buffer s b && (length held == 0)) (Some (holding.Own ∷ []))
changed s held (event.Place b o l p) =
    only_if (list_any (is_same holding.Own) held && nat_lt 0 l && (o % 64 == 0) && list_all (is_apart o l) held) (Some (held ++ holding.Piece o l ∷ []))
changed s held (event.Sent a b o l) = becomes (holding.Piece o l) (holding.Sent a o l ∷ []) held
changed s held (event.Held a b o l) = becomes (holding.Sent a o l) (holding.Held a o l ∷ []) held
changed s held (event.Cut a b o l m p) =
    only_if (nat_lt 0 m && nat_lt m l) (becomes (holding.Held a o l) (holding.Held a o m ∷ holding.Held a (o + m) (l - m) ∷ []) held)
changed s held (event.Lend a b o l p u) = becomes (holding.Held a o l) (holding.Loan a o l ∷ []) held
changed s held (event.Back a b o l u) = becomes (holding.Loan a o l) (holding.Owed a ∷ []) held
changed s held (event.Honour a b p u) = becomes (holding.Owed a) [] held
changed s held (event.Stray a) = Some held
changed s held (event.Free a b o l p) = becomes (holding.Held a o l) [] held
changed s held (event.Spare a b p) =
    only_if ((is_pool_buffer s b || is_reserve_of s a b) && (length held == 0)) (Some (holding.Spare a ∷ []))
changed s held (event.Own a b l p u) = only_if (nat_lt 0 l && nat_lt l 257) (becomes (holding.Spare a) (holding.Loan a 0 l ∷ []) held)
changed s held (event.Shut b p) = becomes holding.Own [] held
changed s held (event.Scrub a b p u) = only_if (list_any (is_same (holding.Owed a)) held) (Some (filter (λ h. not (is_same (holding.Owed a) h)) held))

-- the counts that the event says, where it says them, are those of its buffer's holders after it
abbrev pub is_pool_count : List Holding → ℕ → Bool
is_pool_count held p = length held == p

abbrev pub is_user_count : List Holding → ℕ → ℕ → Bool
is_user_count held a u = count_by (is_user a) held == u

abbrev pub has_counts : List Holding → Event → Bool
has_counts held (event.Take b p) = is_pool_count held p
has_counts held (event.Place b o l p) = is_pool_count held p
has_counts held (event.Sent a b o l) = true
has_counts held (event.Held a b o l) = true
has_counts held (event.Cut a b o l m p) = is_pool_count held p
has_counts held (event.Lend a b o l p u) = is_pool_count held p && is_user_count held a u
has_counts held (event.Back a b o l u) = is_user_count held a u
has_counts held (event.Honour a b p u) = is_pool_count held p && is_user_count held a u
has_counts held (event.Stray a) = true
has_counts held (event.Free a b o l p) = is_pool_count held p
has_counts held (event.Spare a b p) = is_pool_count held p
has_counts held (event.Own a b l p u) = is_pool_count held p && is_user_count held a u
has_counts held (event.Shut b p) = is_pool_count held p
has_counts held (event.Scrub a b p u) = is_pool_count held p && is_user_count held a u

-- ---- the holders of all buffers

abbrev pub Holdings : Type 0
Holdings = ℕ → List Holding

abbrev pub no_holdings : Holdings
no_holdings = λ buffer. []

abbrev pub with_holders : Holdings → ℕ → List Holding → Holdings
with_holders holdings buffer held = λ other. if other == buffer then held else holdings other

-- the holders of the event's buffer after it
abbrev pub held_after : Setting → List Holding → Event → Option (List Holding)
held_after s held e = option_and_then (λ now. only_if (has_counts now e) (Some now)) (changed s held e)

abbrev pub after_at : Setting → Holdings → Event → Option ℕ → Option Holdings
after_at s holdings e None = Some holdings
after_at s holdings e (Some b) = option_map (with_holders holdings b) (held_after s (holdings b) e)

-- the holders after an event; none where the event's numbers are out of range or say other counts, or where the holders
-- before it aren't what it needs
unfoldable pub after : Setting → Holdings → Event → Option Holdings
after s holdings e = only_if (is_in_range s e) (after_at s holdings e (buffer_of_event e))

-- the holders after all events, one after another
abbrev pub all_after : Setting → Holdings → List Event → Option Holdings
all_after s holdings [] = Some holdings
all_after s holdings (e ∷ events) = option_and_then (λ now. all_after s now events) (after s holdings e)
