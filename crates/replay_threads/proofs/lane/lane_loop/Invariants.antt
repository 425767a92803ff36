-- The turns so far.
use Rattle.replay_threads.proofs.lane.lane_loop.Given as goal

abbrev pub invariant-loop : goal.invariant-loop
invariant-loop g l = g.W.Sits.goes l.fn.lane l.lane
