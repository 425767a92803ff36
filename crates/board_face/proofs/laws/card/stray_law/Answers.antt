use Rattle.board_face.proofs.CountLaws.{stray_law}
use Rattle.board_face.proofs.laws.card.stray_law.Goals as goal

pub returns : goal.returns
returns c = stray_law
