use Rattle.std.proofs.Common.{◌≡◌, ◌++◌, map, take}
use Rattle.zr_kinds.specs.RunText.{line_of, text_of_lines}
use Rattle.top_call.specs.Gathered.{Waits}
use Rattle.top_call.proofs.record.gather_events.Given as goal

abbrev pub invariant-loop-event : goal.invariant-loop-event
invariant-loop-event g l =
    (g.O.Sink.faults l.out ≡ g.O.Sink.faults l.fn.out)
    × Waits (g.O.Sink.sent l.fn.out) (g.O.Sink.sent l.out) (l.fn.block.bytes ++ text_of_lines (map line_of (take l.event-index l.events))) l.block.bytes
