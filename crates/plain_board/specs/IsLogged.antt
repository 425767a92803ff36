-- A log that tells of a board: it has the first of all events that lead from no holders to those of the board.
use Rattle.std.specs.{Prelude.{◌≡◌, ℕ, ◌≤◌, List, All, slice_index, None, Some}, List.{AllByRecursion}}
use Rattle.area_layout.specs.Layout.{IsLayout}
use Rattle.zr_kinds.specs.{declared.event.Event.{Event}, Setting.{most_events, Setting}, Holders.{Holdings, no_holdings, all_after}, LegalRun.{HasSmallNumbers}}
use Rattle.board_face.specs.{Fillings.{IsFilledByOne, FillingsFit}, Laws.{AllSides, FitTogether}, Places.{ArePlaced}, Sides.{HaveOneSetting}}
use Rattle.plain_board.specs.{Logs.{KeptEvents, log_of, logged}, Plain.{AreHoldersOf}, Settings.{setting_of_layout}, Tallies.{AreTallied}}

-- the setting of the board that has these sides
abbrev pub setting_of_sides : AllSides → Setting
setting_of_sides s = setting_of_layout s.nic.view.setting.layout

-- `all` are events that lead from no holders to those of the sides, and tell what the roles did. The log has the first of them, as
-- many as it has room for, and is whole where these are all.
pub record IsLogged (s : AllSides) (kept : KeptEvents) : Type 0 where
  pub most : kept.room ≤ most_events
  pub all : List Event
  pub log_is : kept ≡ log_of kept.room all
  pub small : AllByRecursion HasSmallNumbers all
  pub holdings : Holdings
  pub reached : all_after (setting_of_sides s) no_holdings all ≡ Some holdings
  pub same : AreHoldersOf holdings s
  pub tallied : AreTallied s all

-- the log goes on to tell of the board, once this event was logged
abbrev pub Logs : Event → AllSides → AllSides → Type 0
Logs e old new = (kept : KeptEvents) → HasSmallNumbers e → IsLogged old kept → IsLogged new (logged kept e)

-- and it goes on to, with nothing logged
abbrev pub KeepsLog : AllSides → AllSides → Type 0
KeepsLog old new = (kept : KeptEvents) → IsLogged old kept → IsLogged new kept

-- No return is on its way: between two calls a card has no entry in hand, and no scrub is under way.
pub record NoneReturns (s : AllSides) : Type 0 where
  pub entry : s.nic.inside.entry ≡ None
  pub owes : All (λ app. (b : ℕ) → slice_index app.inside.scrub_owes b ≡ 0) s.apps

-- what holds of the sides of a board between any two calls
pub record AreSound (s : AllSides) : Type 0 where
  pub layout : IsLayout s.nic.view.setting.layout
  pub setting : HaveOneSetting s.nic s.apps
  pub fit : FitTogether s
  pub returns : NoneReturns s
  pub places : (b : ℕ) → ArePlaced b s.nic s.apps
  pub by_one : (b : ℕ) → IsFilledByOne b s.nic s.apps
  pub fillings : FillingsFit s.nic s.apps
