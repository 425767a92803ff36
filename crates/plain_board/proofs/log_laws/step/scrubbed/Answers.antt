use Rattle.plain_board.proofs.Scrubs.{scrubbed-law}
use Rattle.plain_board.proofs.log_laws.step.scrubbed.Goals as goal

pub returns : goal.returns
returns c = scrubbed-law
