use Rattle.board_face.proofs.CountLaws.{honour_law}
use Rattle.board_face.proofs.laws.card.honour_law.Goals as goal

pub returns : goal.returns
returns c = honour_law
