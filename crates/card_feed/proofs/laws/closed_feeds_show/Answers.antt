use Rattle.card_feed.proofs.Sharing.{closed_show}
use Rattle.card_feed.proofs.laws.closed_feeds_show.Goals as goal

pub returns : goal.returns
returns g c = closed_show g.S.Source.left g.S.Source.faults
