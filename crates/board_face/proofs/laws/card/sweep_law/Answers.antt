use Rattle.board_face.proofs.CountLaws.{sweep_law}
use Rattle.board_face.proofs.laws.card.sweep_law.Goals as goal

pub returns : goal.returns
returns c = sweep_law
