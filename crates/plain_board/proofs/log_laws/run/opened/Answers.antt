use Rattle.plain_board.proofs.Runs.{opened-law}
use Rattle.plain_board.proofs.log_laws.run.opened.Goals as goal

pub returns : goal.returns
returns c = opened-law
