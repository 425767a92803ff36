use Rattle.page_pool.proofs.PackingLaws.{packing_whole}
use Rattle.page_pool.proofs.laws.packing_is_whole.Goals as goal

pub returns : goal.returns
returns c = packing_whole
