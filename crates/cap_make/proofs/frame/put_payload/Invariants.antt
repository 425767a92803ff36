use Rattle.std.proofs.Common.{◌≡◌, ◌++◌}
use Rattle.cap_make.specs.GeneratedCapture.{bytes_from}
use Rattle.cap_make.proofs.frame.put_payload.Given as goal

abbrev pub invariant-loop-i : goal.invariant-loop-i
invariant-loop-i l = l.block.items ≡ l.initial.block.items ++ bytes_from l.shift l.first l.i
