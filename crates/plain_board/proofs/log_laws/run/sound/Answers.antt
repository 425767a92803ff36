use Rattle.plain_board.proofs.SoundSides.{sound-law}
use Rattle.plain_board.proofs.log_laws.run.sound.Goals as goal

pub returns : goal.returns
returns c = sound-law
