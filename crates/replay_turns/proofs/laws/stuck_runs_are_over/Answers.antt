use Rattle.replay_turns.proofs.AllLeft.{stuck-over}
use Rattle.replay_turns.proofs.laws.stuck_runs_are_over.Goals as goal

pub returns : goal.returns
returns c = stuck-over
