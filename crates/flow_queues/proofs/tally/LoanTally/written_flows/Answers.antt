use Rattle.std.proofs.Common.{rules}
use Rattle.flow_queues.proofs.Shown.{shown-length, shown-some, shown-sorted}
use Rattle.flow_queues.proofs.tally.LoanTally.written_flows.Goals as goal

pub loop-flow-init : goal.loop-flow-init
loop-flow-init c = (let long = shown-length c.args.self.now.counts.entries in search rules)

pub returns-clause-some : goal.returns-clause-some
returns-clause-some c = (let some = shown-some c.args.self.now.counts.entries in search rules)

pub returns-clause-ascending : goal.returns-clause-ascending
returns-clause-ascending c = (let sorted = shown-sorted c.args.self.now.counts.entries in search rules)
