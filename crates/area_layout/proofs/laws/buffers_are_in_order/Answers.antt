use Rattle.area_layout.proofs.Words.{in_order}
use Rattle.area_layout.proofs.laws.buffers_are_in_order.Goals as goal

pub returns : goal.returns
returns c = in_order
