-- What a run touches at one moment: its source and its shelves, and what is seen of these.
use Rattle.std.specs.{Prelude.{ℕ, List, Option, Some, None, option_map}, List.{slice_get}}
use Rattle.zr_io.specs.Moved.{ShelfCounts}
use Rattle.card_feed.specs.Account.{kept_in}

-- ---- what is seen

-- of a source: the bytes that are still to come, and how often it has failed
pub record SourceSeen (S : Type 0) : Type 0 where
  pub left : S → Option (List ℕ)
  pub failed : S → ℕ

-- of a shelf: what it keeps of each flow, and what its calls did
pub record ShelfSeen (T : Type 0) : Type 0 where
  pub kept : T → ℕ → Option (List ℕ)
  pub counts : T → ShelfCounts

pub record Streams (S T : Type 0) : Type 0 where
  pub source : SourceSeen S
  pub shelf : ShelfSeen T

abbrev pub source_seen : {S : Type 0} → (S → Option (List ℕ)) → (S → ℕ) → SourceSeen S
source_seen left failed = record { left = left; failed = failed }

abbrev pub shelf_seen : {T : Type 0} → (T → ℕ → Option (List ℕ)) → (T → ShelfCounts) → ShelfSeen T
shelf_seen kept counts = record { kept = kept; counts = counts }

abbrev pub streams : {S T : Type 0} → (S → Option (List ℕ)) → (S → ℕ) → (T → ℕ → Option (List ℕ)) → (T → ShelfCounts) → Streams S T
streams left failed kept counts = record { source = source_seen left failed; shelf = shelf_seen kept counts }

-- ---- what is touched

-- the source and the shelves
pub record Ends {S T : Type 0} (m : Streams S T) : Type 0 where
  pub source : S
  pub shelves : List T

abbrev pub ends_at : {S T : Type 0} → (m : Streams S T) → S → List T → Ends m
ends_at m source shelves = record { source = source; shelves = shelves }

-- the bytes that are still to come
abbrev pub left_at : {S T : Type 0} → {m : Streams S T} → Ends m → Option (List ℕ)
left_at {S} {T} {m} ends = m.source.left ends.source

-- how often the source has failed
abbrev pub failed_at : {S T : Type 0} → {m : Streams S T} → Ends m → ℕ
failed_at {S} {T} {m} ends = m.source.failed ends.source

-- what the shelf of an application keeps of a flow
abbrev pub kept_at : {S T : Type 0} → {m : Streams S T} → Ends m → ℕ → ℕ → Option (List ℕ)
kept_at {S} {T} {m} ends app = kept_in m.shelf.kept ends.shelves app

-- what a shelf has counted, where it is there
abbrev pub losses_or : Option ShelfCounts → ShelfCounts
losses_or None = record { faults = 0; appended = 0 }
losses_or (Some counts) = counts

-- what the shelf of an application has counted
abbrev pub losses_in : {T : Type 0} → (T → ShelfCounts) → List T → ℕ → ShelfCounts
losses_in counts shelves app = losses_or (option_map counts (slice_get shelves app))

abbrev pub counts_at : {S T : Type 0} → {m : Streams S T} → Ends m → ℕ → ShelfCounts
counts_at {S} {T} {m} ends app = losses_in m.shelf.counts ends.shelves app
