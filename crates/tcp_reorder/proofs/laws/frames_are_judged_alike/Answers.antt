use Rattle.tcp_reorder.proofs.Judging.{judged_alike}
use Rattle.tcp_reorder.proofs.laws.frames_are_judged_alike.Goals as goal

pub returns : goal.returns
returns c = judged_alike
