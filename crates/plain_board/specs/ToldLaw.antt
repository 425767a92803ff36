-- What a log tells of its board at any time, whole or not: it has the first of events that lead to the board's holders, and
-- tell of each application's loans, of its copies and of the strays.
use Rattle.std.specs.{Prelude.{◌≡◌, ℕ, List, [], length, Some}, List.{sum_by}}
use Rattle.zr_kinds.specs.{declared.event.Event.{Event}, Holders.{Holdings, no_holdings, all_after}}
use Rattle.board_face.specs.{Laws.{AllSides, pool_of}, Sides.{IsApp}, declared.views.app.{AppView.{AppView}, AppSide.{AppSide}}}
use Rattle.plain_board.specs.{IsLogged.{IsLogged, setting_of_sides}, Logs.{KeptEvents, log_of}, Tallies.{bytes_lent_in, copies_in, len_of_loan, loans_in}}
use Rattle.plain_board.specs.Tallies.{stray_events_in, strays_of}

-- Where the application has no loan out, its loans are those that it returned. Where it has no spare, it lent each.
pub record IsToldOf (a : ℕ) (v : AppView) (events : List Event) : Type 0 where
  pub loans : v.loans ≡ [] → loans_in a events ≡ length v.returned
  pub bytes : v.loans ≡ [] → bytes_lent_in a events ≡ sum_by len_of_loan v.returned
  pub copies : v.owns ≡ [] → copies_in a events ≡ v.spares

pub record IsTold (s : AllSides) (kept : KeptEvents) : Type 0 where
  pub all : List Event
  pub log_is : kept ≡ log_of kept.room all
  pub holdings : Holdings
  pub reached : all_after (setting_of_sides s) no_holdings all ≡ Some holdings
  pub ended : ((b : ℕ) → pool_of s b ≡ 0) → (b : ℕ) → holdings b ≡ []
  pub apps : (a : ℕ) (app : AppSide) → IsApp s.apps a app → IsToldOf a app.view all
  pub strays : stray_events_in all ≡ strays_of s.nic.view.dealt

abbrev pub ToldLaw : Type 0
ToldLaw = (s : AllSides) (kept : KeptEvents) → IsLogged s kept → IsTold s kept
