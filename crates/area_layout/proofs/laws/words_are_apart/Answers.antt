use Rattle.area_layout.proofs.Words.{words_apart}
use Rattle.area_layout.proofs.laws.words_are_apart.Goals as goal

pub returns : goal.returns
returns c = words_apart
