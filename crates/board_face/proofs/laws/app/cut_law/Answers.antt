use Rattle.board_face.proofs.CountLaws.{cut_law}
use Rattle.board_face.proofs.laws.app.cut_law.Goals as goal

pub returns : goal.returns
returns c = cut_law
