use Rattle.card_feed.proofs.SentNotes.{notes-whole}
use Rattle.card_feed.proofs.laws.shown_notes_are_whole.Goals as goal

pub returns : goal.returns
returns c = notes-whole
