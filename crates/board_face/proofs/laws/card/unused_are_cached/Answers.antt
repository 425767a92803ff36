use Rattle.board_face.proofs.LostLemmas.{unused_are_cached}
use Rattle.board_face.proofs.laws.card.unused_are_cached.Goals as goal

pub returns : goal.returns
returns c = unused_are_cached
