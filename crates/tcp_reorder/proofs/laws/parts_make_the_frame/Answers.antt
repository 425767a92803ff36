use Rattle.tcp_reorder.proofs.InParts.{parts_make_the_frame}
use Rattle.tcp_reorder.proofs.laws.parts_make_the_frame.Goals as goal

pub returns : goal.returns
returns g c = parts_make_the_frame _
