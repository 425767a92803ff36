use Rattle.plain_board.proofs.Runs.{ended-law}
use Rattle.plain_board.proofs.log_laws.run.ended.Goals as goal

pub returns : goal.returns
returns c = ended-law
