use Rattle.ref_words.proofs.Running.{runs}
use Rattle.ref_words.proofs.laws.runs.runs_keep_the_rule.Goals as goal

pub returns : goal.returns
returns c = runs (assumption c)
