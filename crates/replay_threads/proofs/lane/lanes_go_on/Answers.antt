-- By the laws of what sits in them.
use Rattle.replay_threads.proofs.LaneTurns.{all_fit, all_more, all_same}
use Rattle.replay_threads.proofs.lane.lanes_go_on.Goals as goal

pub returns-clause-same : goal.returns-clause-same
returns-clause-same g c = all_same g.met.W.Sits.same

pub returns-clause-more : goal.returns-clause-more
returns-clause-more g c = all_more g.met.W.Sits.more

pub returns-clause-again : goal.returns-clause-again
returns-clause-again g c = all_fit g.met.W.Sits.again
