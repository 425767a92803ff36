use Rattle.plain_board.proofs.ShortFills.{fills-law}
use Rattle.plain_board.proofs.log_laws.run.fills.Goals as goal

pub returns : goal.returns
returns c = fills-law
