use Rattle.board_face.proofs.CountLaws.{send_law}
use Rattle.board_face.proofs.laws.card.send_law.Goals as goal

pub returns : goal.returns
returns c = send_law
