-- One shelf for each turn.
use Rattle.std.proofs.Common.{◌≡◌, vec_len}
use Rattle.zcrx_cli.proofs.make_shelves.Given as goal

abbrev pub invariant-loop : goal.invariant-loop
invariant-loop g l = vec_len l.shelves ≡ l.counter
