use Rattle.plain_board.proofs.Ending.{boards-end_well}
use Rattle.plain_board.proofs.laws.boards_end_well.Goals as goal

pub returns : goal.returns
returns c = boards-end_well
