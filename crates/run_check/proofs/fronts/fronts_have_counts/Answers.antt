use Rattle.run_check.proofs.Fronting.{fronts-law}
use Rattle.run_check.proofs.fronts.fronts_have_counts.Goals as goal

pub returns : goal.returns
returns c = fronts-law
