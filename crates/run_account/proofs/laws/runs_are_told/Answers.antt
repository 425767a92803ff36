use Rattle.run_account.{specs.Views.{streams}, proofs.Ended.{end-told}}
use Rattle.run_account.proofs.laws.runs_are_told.Goals as goal

pub returns : goal.returns
returns g c = end-told (streams g.S.Source.left g.S.Source.faults g.T.Shelf.kept g.T.Shelf.counts)
