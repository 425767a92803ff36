use Rattle.page_pool.proofs.PackingLaws.{packing_short}
use Rattle.page_pool.proofs.laws.packing_is_short.Goals as goal

pub returns : goal.returns
returns c = packing_short
