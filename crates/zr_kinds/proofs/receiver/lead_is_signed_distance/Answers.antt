use Rattle.zr_kinds.proofs.SignedDistance.{lead_signed}
use Rattle.zr_kinds.proofs.receiver.lead_is_signed_distance.Goals as goal

pub returns : goal.returns
returns c = lead_signed
