use Rattle.command_words.proofs.AreaRanges.{pool-makes}
use Rattle.command_words.proofs.laws.pools_make_layouts.Goals as goal

pub returns : goal.returns
returns c = pool-makes
