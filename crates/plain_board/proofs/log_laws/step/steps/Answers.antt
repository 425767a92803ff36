use Rattle.plain_board.proofs.StepLaw.{step-law}
use Rattle.plain_board.proofs.log_laws.step.steps.Goals as goal

pub returns : goal.returns
returns c = step-law
