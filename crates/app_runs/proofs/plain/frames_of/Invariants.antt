-- the frames of the notes from this one on
use Rattle.std.proofs.Common.{◌≡◌, ◌≤◌, drop, length}
use Rattle.flow_queues.specs.Marks.{numbered_notes, notes_of_flow, frames_of_notes, base_of}
use Rattle.app_runs.proofs.plain.frames_of.Given as goal

abbrev pub invariant-loop-number : goal.invariant-loop-number
invariant-loop-number l = record {
  within : l.number ≤ length l.taken;
  base : l.base ≡ base_of (notes_of_flow l.flow (numbered_notes l.number (drop l.number l.taken)));
  later : l.frames.items ≡ frames_of_notes (notes_of_flow l.flow (numbered_notes l.number (drop l.number l.taken)));
}

abbrev pub decreases-loop-number : goal.decreases-loop-number
decreases-loop-number l = l.number
