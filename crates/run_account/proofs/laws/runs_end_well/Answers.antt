use Rattle.run_account.{specs.Views.{streams}, proofs.Ended.{end-well}}
use Rattle.run_account.proofs.laws.runs_end_well.Goals as goal

pub returns : goal.returns
returns g c = end-well (streams g.S.Source.left g.S.Source.faults g.T.Shelf.kept g.T.Shelf.counts)
