use Rattle.board_face.proofs.CountLaws.{fill_law}
use Rattle.board_face.proofs.laws.app.fill_law.Goals as goal

pub returns : goal.returns
returns c = fill_law
