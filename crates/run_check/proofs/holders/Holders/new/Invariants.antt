use Rattle.std.proofs.Common.{◌≡◌, ℕ, [], length}
use Rattle.run_check.specs.Holding.{holdings_of}
use Rattle.run_check.proofs.holders.Holders.new.Given as goal

abbrev pub invariant-loop : goal.invariant-loop
invariant-loop l = record {
  none : (buffer : ℕ) → holdings_of l.buffers.items buffer ≡ [];
  count : length l.buffers.items ≡ l.counter;
}
