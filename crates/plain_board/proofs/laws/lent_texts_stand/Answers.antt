use Rattle.plain_board.proofs.Standing.{texts-stand}
use Rattle.plain_board.proofs.laws.lent_texts_stand.Goals as goal

pub returns : goal.returns
returns c = texts-stand
