use Rattle.board_face.proofs.CountLaws.{take_law}
use Rattle.board_face.proofs.laws.card.take_law.Goals as goal

pub returns : goal.returns
returns c = take_law
