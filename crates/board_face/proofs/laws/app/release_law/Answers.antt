use Rattle.board_face.proofs.CountLaws.{release_law}
use Rattle.board_face.proofs.laws.app.release_law.Goals as goal

pub returns : goal.returns
returns c = release_law
