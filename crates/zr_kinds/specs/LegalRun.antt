-- Which events are those of a legal run.
use Rattle.std.specs.{Prelude.{◌≡◌, ℕ, ◌<◌, ◌≤◌, ◌^◌, List, [], length, Bool, IsTrue, Some}, List.{AllByRecursion}}
use Rattle.zr_kinds.specs.{declared.event.Event.{Event}, Setting.{most_events, Setting, IsSetting}, Holders.{Holdings, no_holdings, all_after}, RunText.{numbers_of}}

-- the numbers of an event are those of a `u32`
abbrev pub HasSmallNumbers : Event → Type 0
HasSmallNumbers e = AllByRecursion (λ number. number < 2 ^ 32) (numbers_of e)

-- Each event has what it needs in the holders that the events before it leave, from none, and says the counts after it. If
-- these are all events there is no holder in the end.
pub record IsLegalRun (setting : Setting) (events : List Event) (whole : Bool) : Type 0 where
  pub sound : IsSetting setting
  pub most : length events ≤ most_events
  pub small : AllByRecursion HasSmallNumbers events
  pub holdings : Holdings
  pub reached : all_after setting no_holdings events ≡ Some holdings
  pub ended : IsTrue whole → (buffer : ℕ) → holdings buffer ≡ []
