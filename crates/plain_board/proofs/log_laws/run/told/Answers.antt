use Rattle.plain_board.proofs.Runs.{told-law}
use Rattle.plain_board.proofs.log_laws.run.told.Goals as goal

pub returns : goal.returns
returns c = told-law
