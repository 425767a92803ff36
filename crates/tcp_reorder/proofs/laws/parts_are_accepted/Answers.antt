use Rattle.tcp_reorder.proofs.Judging.{parts_accepted}
use Rattle.tcp_reorder.proofs.laws.parts_are_accepted.Goals as goal

pub returns : goal.returns
returns c = parts_accepted
