use Rattle.zr_kinds.proofs.Mapped.{looks_at_no_value}
use Rattle.zr_kinds.proofs.receiver.receiver_looks_at_no_value.Goals as goal

pub returns : goal.returns
returns g c = looks_at_no_value _ _
