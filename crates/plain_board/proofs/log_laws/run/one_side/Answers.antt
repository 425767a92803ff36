use Rattle.plain_board.proofs.OneSide.{one_side-law}
use Rattle.plain_board.proofs.log_laws.run.one_side.Goals as goal

pub returns : goal.returns
returns c = one_side-law
