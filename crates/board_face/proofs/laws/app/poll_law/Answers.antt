use Rattle.board_face.proofs.CountLaws.{poll_law}
use Rattle.board_face.proofs.laws.app.poll_law.Goals as goal

pub returns : goal.returns
returns c = poll_law
