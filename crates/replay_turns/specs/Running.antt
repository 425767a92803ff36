-- A run between two turns at the board for one thread.
use Rattle.std.specs.Prelude.{◌≡◌, ℕ, ◌≤◌, List, length}
use Rattle.plain_board.specs.{Board.{Board, stand_of, sides_of}, Recorded.{IsRecorded}, Sound.{IsSound}}
use Rattle.card_feed.specs.declared.plan.Plan.{Plan}
use Rattle.run_account.specs.{Running.{RolesFit, Running}, Views.{Ends, Streams, ends_at}, declared.run.Run.{Run}}

pub record Moment {S T : Type 0} (m : Streams S T) : Type 0 where
  pub ends : Ends m
  pub board : Board
  pub run : Run

abbrev pub moment : {S T : Type 0} → {m : Streams S T} → Ends m → Board → Run → Moment m
moment ends board run = record { ends = ends; board = board; run = run }

abbrev pub moment_at : {S T : Type 0} → (m : Streams S T) → S → List T → Board → Run → Moment m
moment_at m source shelves board run = moment (ends_at m source shelves) board run

-- the run of this plan that began there has come to this
abbrev pub RunsSince : {S T : Type 0} → {m : Streams S T} → Ends m → Plan → Moment m → Type 0
RunsSince first plan now = Running first now.ends plan now.board.nic now.board.apps now.run

-- It begins with these, wherever it begins: there is a shelf for each application.
abbrev pub BeginsWith : {S T : Type 0} → Streams S T → Plan → Board → Run → Type 0
BeginsWith m plan board run = (first : Ends m) → length plan.ports.items ≤ length first.shelves → RunsSince first plan (moment first board run)

-- The board is sound, its log tells of it, what is kept fits it, and there is a shelf for each application.
pub record RunFits (board : Board) (run : Run) (shelves : ℕ) : Type 0 where
  pub sound : IsSound (stand_of board)
  pub recorded : IsRecorded (sides_of board) board.log
  pub roles : RolesFit board.nic board.apps run
  pub many : length run.workers.items ≡ board.arrays.layout.reserves
  pub shelves_enough : length run.workers.items ≤ shelves

-- Some turns: what is kept fits the board again, its log has room for as many events, and the run goes on.
pub record PlaysTurns {S T : Type 0} {m : Streams S T} (was now : Moment m) : Type 0 where
  pub fits : RunFits now.board now.run (length now.ends.shelves)
  pub workers : length now.run.workers.items ≡ length was.run.workers.items
  pub many : length now.ends.shelves ≡ length was.ends.shelves
  pub room : now.board.log.room ≡ was.board.log.room
  pub runs : (first : Ends m) (plan : Plan) → RunsSince first plan was → RunsSince first plan now

-- Some turns, of which this holds besides.
pub record PlaysBy {S T : Type 0} {m : Streams S T} (By : Moment m → Moment m → Type 0) (was now : Moment m) : Type 0 where
  pub plays : PlaysTurns was now
  pub by : By was now
