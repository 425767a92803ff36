use Rattle.card_feed.proofs.OwnFlows.{own-marks}
use Rattle.card_feed.proofs.laws.own_notes_mark_no_other.Goals as goal

pub returns : goal.returns
returns c = own-marks
