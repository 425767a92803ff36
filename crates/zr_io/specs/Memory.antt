-- What the sources, sinks and shelves over memory hold, as their callers see it.
use Rattle.std.specs.Prelude.{ℕ, ◌+◌, ◌-◌, ◌^◌, min, nat_eq, nat_lt, List, [], ◌++◌, length, take, slice_index_or, slice_set, Option, None, Some, if◌then◌else◌}
use Rattle.std.specs.Map.{lookup}

-- a count that is one higher, or stands still at the end of its type
abbrev pub raised : ℕ → ℕ
raised count = min (count + 1) (2 ^ 64 - 1)

-- a source of memory: what is left, how many bytes a call gives at most, which calls fail, and how many calls and faults there were
pub record Supply : Type 0 where
  pub left : List ℕ
  pub most : ℕ
  pub fails : List ℕ
  pub calls : ℕ
  pub faults : ℕ

-- a sink of memory: what went out, for how many bytes it has room, and which calls fail after how many bytes
pub record Drain : Type 0 where
  pub bytes : List ℕ
  pub room : ℕ
  pub fails : List (ℕ × ℕ)
  pub calls : ℕ
  pub faults : ℕ

-- a shelf of memory: what is kept of each flow that has room, the rest as for a sink, and the bytes of the appends that went well
pub record Rack : Type 0 where
  pub flows : List (List ℕ)
  pub room : ℕ
  pub fails : List (ℕ × ℕ)
  pub calls : ℕ
  pub faults : ℕ
  pub appended : ℕ

-- what the list of failing calls says of the next call: how many bytes go out before its fault
abbrev pub next_entry : List (ℕ × ℕ) → ℕ → Option ℕ
next_entry fails calls = lookup (nat_eq (raised calls)) fails

-- the front of a piece that goes out at a failed call: nothing where it has too little room, else as many bytes as the call's entry says
abbrev pub front_out : ℕ → Option ℕ → List ℕ → List ℕ
front_out room None piece = take 0 piece
front_out room (Some count) piece = take (if nat_lt room (length piece) then 0 else count) piece

-- what is kept of a flow, which is nothing past the last flow that has room
abbrev pub kept_of : Rack → ℕ → List ℕ
kept_of rack flow = slice_index_or rack.flows flow []

-- for how many bytes of a flow there is room, with those that are kept
abbrev pub room_of : Rack → ℕ → ℕ
room_of rack flow = if nat_lt flow (length rack.flows) then rack.room else 0

-- the flows with some more bytes of one flow
abbrev pub rack_with : Rack → ℕ → List ℕ → List (List ℕ)
rack_with rack flow bytes = slice_set rack.flows flow (kept_of rack flow ++ bytes)

-- a reader or a writer of the system: its bytes where it tells them, and how often it failed
pub record Stream : Type 0 where
  pub bytes : Option (List ℕ)
  pub faults : ℕ
