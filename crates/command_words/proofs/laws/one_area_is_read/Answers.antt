use Rattle.command_words.proofs.AreaRanges.{one-read}
use Rattle.command_words.proofs.laws.one_area_is_read.Goals as goal

pub returns : goal.returns
returns c = one-read
