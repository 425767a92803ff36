use Rattle.card_feed.proofs.Beginning.{feeds_stand}
use Rattle.card_feed.proofs.laws.new_feeds_stand.Goals as goal

pub returns : goal.returns
returns g c = feeds_stand g.S.Source.left g.S.Source.faults
