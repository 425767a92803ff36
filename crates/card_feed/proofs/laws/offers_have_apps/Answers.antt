use Rattle.card_feed.proofs.SentNotes.{offers-apps}
use Rattle.card_feed.proofs.laws.offers_have_apps.Goals as goal

pub returns : goal.returns
returns c = offers-apps
