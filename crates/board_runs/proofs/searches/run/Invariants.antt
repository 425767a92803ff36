use Rattle.board_runs.specs.Played.{IsIdleBoard}
use Rattle.board_runs.proofs.searches.run.Given as goal

abbrev pub invariant-loop-step : goal.invariant-loop-step
invariant-loop-step g l = IsIdleBoard l.board
