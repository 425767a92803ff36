-- The lines so far.
use Rattle.std.proofs.Common.{◌≡◌, map, take}
use Rattle.run_account.specs.Ran.{app_lines_of}
use Rattle.run_account.proofs.ending.app_lines.Given as goal

abbrev pub invariant-loop-app : goal.invariant-loop-app
invariant-loop-app g l = l.lines.items ≡ app_lines_of (take l.app l.ports) (take l.app (map g.E.Leaves.end l.ends))
