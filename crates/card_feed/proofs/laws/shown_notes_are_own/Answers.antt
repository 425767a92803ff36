use Rattle.card_feed.proofs.SentNotes.{notes-own}
use Rattle.card_feed.proofs.laws.shown_notes_are_own.Goals as goal

pub returns : goal.returns
returns c = notes-own
