use Rattle.run_account.specs.Views.{streams}
use Rattle.replay_turns.proofs.Bounds.{runs-within}
use Rattle.replay_turns.proofs.laws.runs_stay_within.Goals as goal

pub returns : goal.returns
returns g c = runs-within (streams g.S.Source.left g.S.Source.faults g.T.Shelf.kept g.T.Shelf.counts)
