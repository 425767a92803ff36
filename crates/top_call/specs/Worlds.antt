-- What a command touches, at one moment: its source, its shelves, its sink and its card, and what is seen of these.
use Rattle.std.specs.Prelude.{◌≡◌, ℕ, List, Option}
use Rattle.zr_io.specs.Moved.{ShelfCounts}
use Rattle.run_account.specs.Views.{Ends, Streams, counts_at, ends_at, failed_at, kept_at, left_at}
use Rattle.top_call.specs.declared.card.Card.{Card}

-- ---- what is seen

-- of a sink: what went out, and how often it has failed
pub record SinkSeen (O : Type 0) : Type 0 where
  pub sent : O → Option (List ℕ)
  pub failed : O → ℕ

pub record Seen (S T O : Type 0) : Type 0 where
  pub streams : Streams S T
  pub sink : SinkSeen O

abbrev pub sink_seen : {O : Type 0} → (O → Option (List ℕ)) → (O → ℕ) → SinkSeen O
sink_seen sent failed = record { sent = sent; failed = failed }

abbrev pub seen : {S T O : Type 0} → Streams S T → SinkSeen O → Seen S T O
seen streams sink = record { streams = streams; sink = sink }

-- ---- what is touched

-- the source and the shelves, the sink and the card
pub record World {S T O : Type 0} (m : Seen S T O) : Type 0 where
  pub ends : Ends m.streams
  pub out : O
  pub card : Card

abbrev pub world_at : {S T O : Type 0} → (m : Seen S T O) → S → List T → O → Card → World m
world_at m source shelves out card = record { ends = ends_at m.streams source shelves; out = out; card = card }

-- the bytes that are still to come
abbrev pub left_in : {S T O : Type 0} → {m : Seen S T O} → World m → Option (List ℕ)
left_in world = left_at world.ends

-- how often the source has failed
abbrev pub failed_in : {S T O : Type 0} → {m : Seen S T O} → World m → ℕ
failed_in world = failed_at world.ends

-- what the shelf of an application keeps of a flow
abbrev pub kept_by : {S T O : Type 0} → {m : Seen S T O} → World m → ℕ → ℕ → Option (List ℕ)
kept_by world app flow = kept_at world.ends app flow

-- what the calls of its shelf did
abbrev pub counts_by : {S T O : Type 0} → {m : Seen S T O} → World m → ℕ → ShelfCounts
counts_by world app = counts_at world.ends app

-- What went out, and how often the sink has failed.
pub record Sunk : Type 0 where
  pub sent : Option (List ℕ)
  pub failed : ℕ

abbrev pub sunk : {O : Type 0} → SinkSeen O → O → Sunk
sunk m out = record { sent = m.sent out; failed = m.failed out }

abbrev pub sink_in : {S T O : Type 0} → {m : Seen S T O} → World m → Sunk
sink_in {S} {T} {O} {m} world = sunk m.sink world.out

-- Nothing was touched, and the card is blank.
pub record IsUntouched {S T O : Type 0} {m : Seen S T O} (before after : World m) : Type 0 where
  pub source_is : after.ends.source ≡ before.ends.source
  pub shelves_are : after.ends.shelves ≡ before.ends.shelves
  pub out_is : after.out ≡ before.out
  pub card_is : after.card ≡ Card.Blank
