use Rattle.replay_threads.proofs.Carrying.{carried-law}
use Rattle.replay_threads.proofs.laws.carried_in_order.Goals as goal

pub returns : goal.returns
returns g c = carried-law g.S.Source.left g.S.Source.faults
