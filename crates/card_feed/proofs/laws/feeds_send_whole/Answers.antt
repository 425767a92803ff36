use Rattle.card_feed.proofs.SentNotes.{feeds-whole}
use Rattle.card_feed.proofs.laws.feeds_send_whole.Goals as goal

pub returns : goal.returns
returns g c = feeds-whole g.S.Source.left g.S.Source.faults
