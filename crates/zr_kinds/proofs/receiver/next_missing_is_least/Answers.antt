use Rattle.zr_kinds.proofs.LeastMissing.{next_missing_least}
use Rattle.zr_kinds.proofs.receiver.next_missing_is_least.Goals as goal

pub returns : goal.returns
returns g c = next_missing_least _
