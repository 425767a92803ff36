use Rattle.cap_make.proofs.Flowing.{flows_of-frames}
use Rattle.cap_make.proofs.laws.flows_are_four.Goals as goal

pub returns : goal.returns
returns c = flows_of-frames
