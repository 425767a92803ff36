use Rattle.board_face.proofs.CountLaws.{app_keeps}
use Rattle.board_face.proofs.laws.app.app_keeps.Goals as goal

pub returns : goal.returns
returns c = app_keeps
