use Rattle.board_face.proofs.CountLaws.{card_keeps}
use Rattle.board_face.proofs.laws.card.card_keeps.Goals as goal

pub returns : goal.returns
returns c = card_keeps
