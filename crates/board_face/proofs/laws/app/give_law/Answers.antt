use Rattle.board_face.proofs.CountLaws.{give_law}
use Rattle.board_face.proofs.laws.app.give_law.Goals as goal

pub returns : goal.returns
returns c = give_law
