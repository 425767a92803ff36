use Rattle.replay_turns.proofs.Rising.{turns-rise}
use Rattle.replay_turns.proofs.laws.turns_rise.Goals as goal

pub returns : goal.returns
returns c = turns-rise
