-- The stream stands between two steps.
use Rattle.zc_poll.specs.Standing.{StreamStands}
use Rattle.app_runs.proofs.stream.plays.Given as goal

abbrev pub invariant-loop-step : goal.invariant-loop-step
invariant-loop-step g l = StreamStands l.stream.desk l.stream.face.side.view
