-- The turns so far.
use Rattle.replay_threads.proofs.lane.lane_turns.Given as goal

abbrev pub invariant-loop-idle : goal.invariant-loop-idle
invariant-loop-idle g l = g.W.Sits.goes l.fn.lane l.lane
