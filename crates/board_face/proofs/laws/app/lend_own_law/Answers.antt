use Rattle.board_face.proofs.CountLaws.{lend_own_law}
use Rattle.board_face.proofs.laws.app.lend_own_law.Goals as goal

pub returns : goal.returns
returns c = lend_own_law
