use Rattle.board_face.proofs.CountLaws.{shut_law}
use Rattle.board_face.proofs.laws.card.shut_law.Goals as goal

pub returns : goal.returns
returns c = shut_law
