-- What was told stands before what is left.
use Rattle.std.proofs.Common.{◌≡◌, ◌≤◌, ◌++◌, length, vec_capacity}
use Rattle.flow_queues.specs.Counting.{with_bytes}
use Rattle.flow_queues.proofs.tally.LoanTally.written_flows.Given as goal

abbrev pub invariant-loop-flow : goal.invariant-loop-flow
invariant-loop-flow l = (l.flows.items ++ with_bytes l.flow-iterator ≡ with_bytes l.fn.self.counts.entries)
    × (length (with_bytes l.fn.self.counts.entries) ≤ vec_capacity l.flows)
