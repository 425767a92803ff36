use Rattle.board_runs.specs.Played.{IsOffering}
use Rattle.board_runs.proofs.offers.take_all.Given as goal

abbrev pub invariant-loop : goal.invariant-loop
invariant-loop l = IsOffering l.pool l.ended l.board
