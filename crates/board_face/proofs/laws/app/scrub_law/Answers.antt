use Rattle.board_face.proofs.CountLaws.{scrub_law}
use Rattle.board_face.proofs.laws.app.scrub_law.Goals as goal

pub returns : goal.returns
returns c = scrub_law
