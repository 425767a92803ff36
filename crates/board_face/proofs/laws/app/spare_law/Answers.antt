use Rattle.board_face.proofs.CountLaws.{spare_law}
use Rattle.board_face.proofs.laws.app.spare_law.Goals as goal

pub returns : goal.returns
returns c = spare_law
