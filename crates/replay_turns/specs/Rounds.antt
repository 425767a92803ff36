-- A turn that did nothing, and what a run is that goes round.
use Rattle.std.specs.Prelude.{◌≡◌, ℕ, ◌<◌, ◌≤◌, Bool, true, [], MatchBool}
use Rattle.board_face.specs.{AppEvents.{app_gist}, NicEvents.{nic_gist}}
use Rattle.page_pool.specs.Dealing.{CountsStrays}
use Rattle.plain_board.specs.Board.{Board, side_of}
use Rattle.card_feed.specs.declared.plan.Plan.{Plan}
use Rattle.run_account.specs.{Views.{Ends, Streams}, declared.run.Run.{Run}}
use Rattle.replay_turns.specs.{Running.{Moment, PlaysTurns, RunsSince}, Steps.{run_steps}, Stuck.{AreStuck, IsStuck}, declared.role.Role.{Role}}

-- All is as it was, but for looks and what the applications know of their refill slots.
pub record StandsStill (board board_now : Board) (was now : Run) : Type 0 where
  pub feed : now.feed ≡ record was.feed { pool = record was.feed.pool { stats = now.feed.pool.stats } }
  -- no entry was dealt with
  pub stats : CountsStrays was.feed.pool.stats now.feed.pool.stats []
  pub workers : now.workers.items ≡ was.workers.items
  pub card : nic_gist board_now.nic.view ≡ nic_gist board.nic.view
  pub app : (a : ℕ) → app_gist (side_of board_now a).view ≡ app_gist (side_of board a).view

-- The turn of a role did nothing, since there is nothing that it can do.
pub record DidNothing (role : Role) (board board_now : Board) (was now : Run) : Type 0 where
  pub same : StandsStill board board_now was now
  pub stuck : IsStuck role board_now now

-- Turns of which this says whether something was done: they bring nothing back, and where something was done further.
pub record PlaysOn {S T : Type 0} {m : Streams S T} (did : Bool) (was now : Moment m) : Type 0 where
  pub plays : PlaysTurns was now
  pub later : run_steps was.board was.run ≤ run_steps now.board now.run
  pub rises : did ≡ true → run_steps was.board was.run < run_steps now.board now.run

-- Something was done in a round, and the run has come further; or nobody can do anything.
abbrev pub RisesOrStuck : {S T : Type 0} → {m : Streams S T} → Bool → Moment m → Moment m → Type 0
RisesOrStuck did was now = MatchBool did (run_steps was.board was.run < run_steps now.board now.run) (AreStuck now.board now.run)

-- The run is one of some plan, so it goes no further than that lets it.
pub record IsOfPlan {S T : Type 0} {m : Streams S T} (now : Moment m) : Type 0 where
  pub first : Ends m
  pub plan : Plan
  pub runs : RunsSince first plan now
