-- The flush of the shelves behind the last turn of a run, and what the lines of the applications say then.
use Rattle.std.specs.{Prelude.{◌≡◌, ℕ, ◌<◌, ◌≤◌, Bool, true, false, List, length, drop, Some}, List.{slice_get}, Io.KnownBytes.{Keeps}}
use Rattle.zr_kinds.specs.declared.{behaviour.Stopped.{Stopped}, outcome.AppLine.{AppLine}}
use Rattle.zr_kinds.specs.declared.behaviour.Stopped.TheVariants as stop
use Rattle.zr_io.specs.Moved.{Rose}
use Rattle.card_feed.specs.Account.{kept_in}
use Rattle.run_account.specs.Views.{ShelfSeen, losses_in}

-- why an application stopped, where the flush of its shelf failed: by that, unless something stopped it before
abbrev pub stopped_or_lost : Stopped → Stopped
stopped_or_lost stop.No = stop.Write
stopped_or_lost stop.Quit = stop.Quit
stopped_or_lost stop.Write = stop.Write
stopped_or_lost stop.Memory = stop.Memory

-- The flush of a shelf went well, and the line of its application is as it was; or it failed, and the line says so.
abbrev pub HasFlushed : ℕ → ℕ → AppLine → AppLine → Bool → Type 0
HasFlushed losses losses_now line line_now false = (losses_now ≡ losses) × (line_now ≡ line)
HasFlushed losses losses_now line line_now true = Rose losses losses_now × (line_now ≡ record line { stopped = stopped_or_lost line.stopped })

-- a call of the shelf of one of these applications failed
abbrev pub HasLost : {T : Type 0} → ShelfSeen T → List T → List T → ℕ → Type 0
HasLost m shelves shelves_now apps =
    (app : ℕ) × (app < apps) × Rose (losses_in m.counts shelves app).faults (losses_in m.counts shelves_now app).faults

-- The shelves of so many applications were flushed; `lost` says whether that failed at one.
pub record Flushes {T : Type 0} (m : ShelfSeen T) (apps : ℕ) (shelves shelves_now : List T) (lines lines_now : List AppLine) (lost : Bool)
    : Type 0 where
  -- What each shelf keeps is as it was, and the shelves of no application are.
  pub keeps : (app flow : ℕ) → Keeps (kept_in m.kept shelves app flow) (kept_in m.kept shelves_now app flow)
  pub many : length shelves_now ≡ length shelves
  pub beyond : drop apps shelves_now ≡ drop apps shelves
  -- the line of each application, by how the flush of its shelf went
  pub line : (app : ℕ) (line : AppLine) → app < apps → slice_get lines app ≡ Some line
      → (failed : Bool) × (line_now : AppLine) × (slice_get lines_now app ≡ Some line_now)
      × HasFlushed (losses_in m.counts shelves app).faults (losses_in m.counts shelves_now app).faults line line_now failed
  pub many_lines : length lines_now ≡ length lines
  pub beyond_lines : drop apps lines_now ≡ drop apps lines
  -- No count of faults falls. One rose where it failed, and else all stood still and the lines are as they were.
  pub later : (app : ℕ) → (losses_in m.counts shelves app).faults ≤ (losses_in m.counts shelves_now app).faults
  pub failed_at : lost ≡ true → HasLost m shelves shelves_now apps
  pub still : lost ≡ false → (app : ℕ) → (losses_in m.counts shelves_now app).faults ≡ (losses_in m.counts shelves app).faults
  pub as_before : lost ≡ false → lines_now ≡ lines
  -- and nothing more was appended
  pub appended : (app : ℕ) → (losses_in m.counts shelves_now app).appended ≡ (losses_in m.counts shelves app).appended
