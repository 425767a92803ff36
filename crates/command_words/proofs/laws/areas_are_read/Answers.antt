use Rattle.command_words.proofs.AreaRanges.{areas-read}
use Rattle.command_words.proofs.laws.areas_are_read.Goals as goal

pub returns : goal.returns
returns c = areas-read
