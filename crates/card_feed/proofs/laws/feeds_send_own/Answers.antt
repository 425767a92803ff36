use Rattle.card_feed.proofs.SentNotes.{feeds-own}
use Rattle.card_feed.proofs.laws.feeds_send_own.Goals as goal

pub returns : goal.returns
returns g c = feeds-own g.S.Source.left g.S.Source.faults
