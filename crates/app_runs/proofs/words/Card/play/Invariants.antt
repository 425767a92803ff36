-- The seat is at its board.
use Rattle.std.specs.Prelude.{◌≡◌}
use Rattle.app_runs.proofs.words.Card.play.Given as goal

abbrev pub invariant-loop-step : goal.invariant-loop-step
invariant-loop-step g l = l.self.nic.board ≡ l.fn.self.nic.board
