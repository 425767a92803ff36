-- Loans are counted, and bytes by flow.
use Rattle.std.specs.Prelude.{◌≡◌, ◌≢◌, ℕ, ◌+◌, ◌≤◌, ◌==◌, Bool, if◌then◌else◌, List, [], length, filter, nat_lt, Option, None}
use Rattle.zr_kinds.specs.declared.{place.Place.{Place}, behaviour.Stopped.{Stopped}}
use Rattle.zr_kinds.specs.declared.behaviour.Stopped.TheVariants as stop
use Rattle.flow_queues.specs.{Core.{total}, Totals.{capped}, Ends.{bytes_written_of, times_written}}

-- what was written of an application's loans, and what stopped that
pub record TallyState : Type 0 where
  -- the loan that was written and is to be given back
  pub due : Option Place
  pub written : ℕ
  pub loans : ℕ
  pub copied : ℕ
  pub stopped : Stopped
  -- how many bytes of each flow were written
  pub counts : List (ℕ × ℕ)
  -- empty, with room for so many
  pub flows : List (ℕ × ℕ)
  pub room : ℕ

-- nothing was written yet, with room for so many flows
abbrev pub new_tally : ℕ → TallyState
new_tally room = record { due = None; written = 0; loans = 0; copied = 0; stopped = stop.No; counts = []; flows = []; room = room }

-- the list of flows is empty, and has room for each flow of which bytes are counted
pub record HasRoomForFlows (w : TallyState) : Type 0 where
  pub room : length w.counts ≤ w.room
  pub empty : w.flows ≡ []

-- once an item was counted among the loans
abbrev pub item_counted : TallyState → Bool → TallyState
item_counted w copied = record w { loans = capped (w.loans + 1); copied = if copied then capped (w.copied + 1) else w.copied }

-- its user stopped it, unless something had
abbrev pub quit_by : Stopped → Stopped
quit_by stop.No = stop.Quit
quit_by stop.Quit = stop.Quit
quit_by stop.Write = stop.Write
quit_by stop.Memory = stop.Memory

-- the flows of which bytes were written
abbrev pub with_bytes : List (ℕ × ℕ) → List (ℕ × ℕ)
with_bytes counts = filter (λ f. nat_lt 0 f.1) counts

-- so many bytes of a flow are counted more, and of no other flow
pub record AddsTo (flow bytes : ℕ) (was now : List (ℕ × ℕ)) : Type 0 where
  pub sum : total (λ f. f.1) now ≡ total (λ f. f.1) was + bytes
  pub counts : (n : ℕ) → bytes_written_of n now ≡ bytes_written_of n was + (if n == flow then bytes else 0)
  -- each flow stands there once at most, and no other comes or goes
  pub others : (n : ℕ) → n ≢ flow → times_written n now ≡ times_written n was
  pub once : times_written flow was ≤ 1 → times_written flow now ≤ 1
