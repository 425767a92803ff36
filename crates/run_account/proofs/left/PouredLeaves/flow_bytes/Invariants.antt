-- The flow doesn't stand among the first.
use Rattle.std.proofs.Common.{◌≡◌, drop}
use Rattle.flow_queues.specs.Ends.{bytes_written_of}
use Rattle.run_account.proofs.left.PouredLeaves.flow_bytes.Given as goal

abbrev pub invariant-loop-number : goal.invariant-loop-number
invariant-loop-number l = bytes_written_of l.flow l.self.flows.items ≡ bytes_written_of l.flow (drop l.number-index l.self.flows.items)
