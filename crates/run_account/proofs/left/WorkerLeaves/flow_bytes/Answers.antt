-- By the flows' numbers with their bytes.
use Rattle.std.proofs.Common.{sym, ◌∙◌}
use Rattle.run_account.proofs.Leaving.{bytes-by}
use Rattle.run_account.proofs.left.WorkerLeaves.flow_bytes.Goals as goal

pub returns : goal.returns
returns c = c.flow_bytes.ensures.value ∙ sym (bytes-by c.args.flow c.args.self.now.state.flows)
