use Rattle.card_feed.proofs.WholeNotes.{first-whole}
use Rattle.card_feed.proofs.laws.first_frames_stand_together.Goals as goal

pub returns : goal.returns
returns c = first-whole
