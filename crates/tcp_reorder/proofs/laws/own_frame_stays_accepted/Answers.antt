use Rattle.tcp_reorder.proofs.OwnFrame.{stays_accepted}
use Rattle.tcp_reorder.proofs.laws.own_frame_stays_accepted.Goals as goal

pub returns : goal.returns
returns g c = stays_accepted _
