use Rattle.board_face.proofs.CountLaws.{place_law}
use Rattle.board_face.proofs.laws.card.place_law.Goals as goal

pub returns : goal.returns
returns c = place_law
