-- The seat is at its board.
use Rattle.std.specs.Prelude.{◌≡◌}
use Rattle.app_runs.proofs.example.serve.Given as goal

abbrev pub invariant-loop : goal.invariant-loop
invariant-loop g l = l.card.nic.board ≡ l.fn.card.nic.board
