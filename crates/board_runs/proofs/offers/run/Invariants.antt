use Rattle.board_runs.specs.Played.{IsOffering}
use Rattle.board_runs.proofs.offers.run.Given as goal

abbrev pub invariant-loop-step : goal.invariant-loop-step
invariant-loop-step g l = IsOffering l.pool l.ended l.board
