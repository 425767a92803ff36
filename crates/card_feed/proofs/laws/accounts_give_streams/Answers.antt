use Rattle.card_feed.proofs.Bridge.{give_streams}
use Rattle.card_feed.proofs.laws.accounts_give_streams.Goals as goal

pub returns : goal.returns
returns g c = give_streams g.T.Shelf.kept
