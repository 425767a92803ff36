use Rattle.std.proofs.Common.{◌≡◌, ◌-◌, ◌++◌}
use Rattle.flow_queues.specs.Marks.{marks_from}
use Rattle.app_runs.proofs.plain.marks_of_note.Given as goal

abbrev pub invariant-loop-place : goal.invariant-loop-place
invariant-loop-place l = l.marks.items ++ marks_from l.note l.place (l.len - l.place) ≡ marks_from l.note 0 l.len
