use Rattle.std.proofs.Common.{◌≡◌, ◌-◌, ◌++◌}
use Rattle.zr_kinds.specs.CopyingReceiver.{values_from, front_of}
use Rattle.app_runs.specs.Plain.{placed_in}
use Rattle.app_runs.proofs.plain.PlainPlaced.front.Given as goal

abbrev pub invariant-loop-position : goal.invariant-loop-position
invariant-loop-position l = l.front.items ++ values_from (placed_in l.self.marks.items l.self.top).at (l.self.top - l.position) l.position
    ≡ front_of (placed_in l.self.marks.items l.self.top)
