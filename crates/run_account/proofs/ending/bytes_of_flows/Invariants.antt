-- The counts of the flows so far.
use Rattle.std.proofs.Common.{◌≡◌, length, map}
use Rattle.run_account.proofs.Telling.{AreCountsBelow}
use Rattle.run_account.proofs.ending.bytes_of_flows.Given as goal

abbrev pub invariant-loop-flow : goal.invariant-loop-flow
invariant-loop-flow g l = record {
  counts : AreCountsBelow l.flow l.feed.flows (map g.E.Leaves.end l.ends) l.bytes.items;
  end : l.flow-end ≡ length l.feed.flows;
}
