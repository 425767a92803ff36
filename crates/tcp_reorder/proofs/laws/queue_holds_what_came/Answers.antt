use Rattle.tcp_reorder.proofs.Entering.{holds_what_came}
use Rattle.tcp_reorder.proofs.laws.queue_holds_what_came.Goals as goal

pub returns : goal.returns
returns g c = holds_what_came _ _
