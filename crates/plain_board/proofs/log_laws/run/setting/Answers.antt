use Rattle.plain_board.proofs.Runs.{setting-law}
use Rattle.plain_board.proofs.log_laws.run.setting.Goals as goal

pub returns : goal.returns
returns c = setting-law
