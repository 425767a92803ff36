use Rattle.tcp_reorder.proofs.Judging.{goes_on}
use Rattle.tcp_reorder.proofs.laws.first_missing_goes_on.Goals as goal

pub returns : goal.returns
returns g c = goes_on _
