-- The record that a replay writes behind its report, where it is asked for, and what it tells of the run.
use Rattle.std.specs.{Prelude.{◌≡◌, ℕ, ◌≤◌, ⊤, true, false, if◌then◌else◌, List, [], length, Some}, List.{slice_get}}
use Rattle.zr_kinds.specs.declared.behaviour.Stopped.TheVariants as stop
use Rattle.zr_kinds.specs.declared.outcome.AppLine.{AppLine}
use Rattle.zr_kinds.specs.{declared.event.Event.{Event}, Setting.{most_events, Setting}, Holders.{Holdings, all_after, no_holdings}, LegalRun.{IsLegalRun}}
use Rattle.zr_kinds.specs.RunText.{run_text_of}
use Rattle.plain_board.specs.{Logs.{KeptEvents, log_of}, Tallies.{AreTallied, bytes_lent_in, copies_in, loans_in, stray_events_in}, Board.{sides_of}}
use Rattle.board_face.specs.Laws.{AllSides}
use Rattle.card_feed.specs.{Counts.{capped}, declared.plan.Plan.{Plan}}
use Rattle.run_account.specs.Ran.{Told}
use Rattle.top_call.specs.declared.card.Card.{Card}

-- the areas and the number of applications, as the record's first line says them
abbrev pub setting_of_plan : Plan → Setting
setting_of_plan plan = record { areas = plan.areas.items; apps = length plan.ports.items }

-- what stands behind the report: the record of the run, where it is asked for
abbrev pub record_in : Plan → Card → List ℕ
record_in plan Card.Blank = []
record_in plan (Card.Found found) = []
record_in plan (Card.Plain board) = if plan.options.events then run_text_of (setting_of_plan plan) board.log.events board.log.whole else []
record_in plan (Card.Words board desk) = []

-- The report counts what these events tell. An application's loans are its `lend` and `own` lines, and its copies its `own` lines; it
-- wrote all the bytes that these lend where it wasn't stopped, and no more where it was.
pub record IsLineOfEvents (count : ℕ → ℕ) (number : ℕ) (line : AppLine) (events : List Event) : Type 0 where
  pub loans : line.loans ≡ count (loans_in number events)
  pub copied : line.copied ≡ count (copies_in number events)
  pub written : line.stopped ≡ stop.No → line.written ≡ count (bytes_lent_in number events)
  pub within : line.written ≤ bytes_lent_in number events

-- And the strays are the `stray` lines.
pub record IsReportOf (count : ℕ → ℕ) (outcome : Told) (events : List Event) : Type 0 where
  pub apps : (number : ℕ) (line : AppLine) → slice_get outcome.apps number ≡ Some line → IsLineOfEvents count number line events
  pub strays : outcome.pool.strays ≡ count (stray_events_in events)

-- What the record of a run tells. These are the sides of its board.
pub record TellsRun (plan : Plan) (outcome : Told) (sides : AllSides) (log : KeptEvents) : Type 0 where
  -- Events that lead, one after another, from no holders to none. They tell, in order, what the card took and sent and what
  -- became of each entry, which pieces each application took and which loans it returned; and how many spares and loans it had.
  pub all : List Event
  pub tallied : AreTallied sides all
  pub holdings : Holdings
  pub reached : all_after (setting_of_plan plan) no_holdings all ≡ Some holdings
  pub over : (buffer : ℕ) → holdings buffer ≡ []
  -- The record has the first `most_events` of them, and ends with `end` where these are all, and else with `more`.
  pub log_is : log ≡ log_of most_events all
  pub legal : IsLegalRun (setting_of_plan plan) log.events log.whole
  -- The report counts what they tell, up to the greatest number that it can say.
  pub told : IsReportOf capped outcome all
  -- So where the record ends with `end` the report counts exactly what its lines tell, and where it ends with `more` it has `most_events`.
  pub exact : log.whole ≡ true → IsReportOf (λ n. n) outcome log.events
  pub full : log.whole ≡ false → length log.events ≡ most_events

-- what the record tells, where there is one
abbrev pub HasRecord : Plan → Told → Card → Type 0
HasRecord plan outcome Card.Blank = ⊤
HasRecord plan outcome (Card.Found found) = ⊤
HasRecord plan outcome (Card.Plain board) = plan.options.events ≡ true → TellsRun plan outcome (sides_of board) board.log
HasRecord plan outcome (Card.Words board desk) = ⊤
