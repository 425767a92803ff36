use Rattle.std.proofs.Common.{◌≡◌, drop}
use Rattle.zr_kinds.specs.CopyingReceiver.{nothing_placed}
use Rattle.flow_queues.specs.Marks.{received_frames}
use Rattle.app_runs.specs.Plain.{placed_in}
use Rattle.app_runs.proofs.plain.receive_all.Given as goal

abbrev pub invariant-loop-frame : goal.invariant-loop-frame
invariant-loop-frame l =
    received_frames l.base (placed_in l.placed.marks.items l.placed.top) (drop l.frame-index l.frames) ≡ received_frames l.base nothing_placed l.frames
