-- The copying receiver, the measure of all streams: a base, values at positions, and the least position n where none
-- stands. Sequence numbers are those of RFC 9293, 3.4: they count modulo 2^32, and the distance from the base's n-th
-- place is read as a signed 32-bit number. What is received first counts at each position.
use Rattle.std.specs.Prelude.{ℕ, zero, suc, ◌+◌, ◌-◌, ◌%◌, ◌^◌, max, List, [], ◌∷◌, length, nat_lt, nat_le, if◌then◌else◌, Bool, ◌&&◌, Option, Some, None}

-- values at positions; from top on none stands
pub record Placed (A : Type 0) : Type 0 where
  pub at : ℕ → Option A
  pub top : ℕ

abbrev pub nothing_placed : {A : Type 0} → Placed A
nothing_placed = record { at = λ position. None; top = 0 }

-- the first position from here on, in so many steps, where none stands
abbrev pub missing_within : {A : Type 0} → (ℕ → Option A) → ℕ → ℕ → ℕ
missing_within at zero position = position
missing_within at (suc steps) position = missing_next (at position) (missing_within at steps (suc position)) position
  where
    missing_next : {A : Type 0} → Option A → ℕ → ℕ → ℕ
    missing_next None later position = position
    missing_next (Some value) later position = later

-- n: the least position where none stands
unfoldable pub next_missing : {A : Type 0} → Placed A → ℕ
next_missing placed = missing_within placed.at placed.top 0

-- The distance of the sequence number s from that of position n, signed, and 2^31 more: so it is no less than 0.
unfoldable pub lead : ℕ → ℕ → ℕ → ℕ
lead base n s = (s + 2 ^ 32 + 2 ^ 31 - (base + n) % 2 ^ 32) % 2 ^ 32

-- the values end at most 2^30 behind position n, and at position 2^62 or before
abbrev pub accepts : ℕ → ℕ → ℕ → ℕ → Bool
accepts base n s len = nat_le (lead base n s + len) (2 ^ 30 + 2 ^ 31) && nat_le (n + lead base n s + len) (2 ^ 62 + 2 ^ 31)

-- the value at a place of the list
abbrev pub value_at : {A : Type 0} → List A → ℕ → Option A
value_at [] place = None
value_at (value ∷ values) zero = Some value
value_at (value ∷ values) (suc place) = value_at values place

-- the value that the list brings to a position, where its first value is at the position `from` less 2^31
abbrev pub brought : {A : Type 0} → List A → ℕ → ℕ → Option A
brought values from position = if nat_lt (position + 2 ^ 31) from then None else value_at values (position + 2 ^ 31 - from)

abbrev pub first_of : {A : Type 0} → Option A → Option A → Option A
first_of None later = later
first_of (Some value) later = Some value

abbrev pub filled_by_values : {A : Type 0} → Placed A → ℕ → List A → Placed A
filled_by_values placed from values = record {
  at = λ position. first_of (placed.at position) (brought values from position);
  top = max placed.top
      (from + length values - 2 ^ 31);
}

-- what stands after values from the sequence number s on were received
unfoldable pub received : {A : Type 0} → ℕ → Placed A → ℕ → List A → Placed A
received base placed s values =
    if accepts base (next_missing placed) s (length values)
    then filled_by_values placed (next_missing placed + lead base (next_missing placed) s) values
    else placed

-- What stands after a part of a frame was received: the frame has `total` values from the sequence number s on, and the
-- part's values are those behind its first `at`. The frame is judged as a whole, also where only some parts of it come.
unfoldable pub received_part : {A : Type 0} → ℕ → Placed A → ℕ → ℕ → ℕ → List A → Placed A
received_part base placed s total at values =
    if accepts base (next_missing placed) s total
    then filled_by_values placed (next_missing placed + lead base (next_missing placed) s + at) values
    else placed

-- the values from a position on, so many of them, up to the first that is missing
abbrev pub values_from : {A : Type 0} → (ℕ → Option A) → ℕ → ℕ → List A
values_from at zero position = []
values_from at (suc steps) position = with_value (at position) (values_from at steps (suc position))
  where
    with_value : {A : Type 0} → Option A → List A → List A
    with_value None others = []
    with_value (Some value) others = value ∷ others

-- the values at 0 to n - 1
unfoldable pub front_of : {A : Type 0} → Placed A → List A
front_of placed = values_from placed.at (next_missing placed) 0
