-- What was taken so far is whole blocks that were passed over. Each is one more of those that a capture may have.
use Rattle.std.proofs.Common.{◌≡◌, ◌-◌}
use Rattle.zr_io.specs.Moved.{Took}
use Rattle.pcapng_reader.{specs.{Blocks.{most_others}, Steps.{told}}, proofs.Passing.{Over, BreaksBefore}}
use Rattle.pcapng_reader.proofs.blocks.read_next.Given as goal

abbrev pub invariant-loop-start : goal.invariant-loop-start
invariant-loop-start g l = record {
  over : Took (g.S.Source.left l.initial.source) (g.S.Source.left l.source) (Over (told l.initial.section) (told l.section));
  breaks : Took (g.S.Source.left l.initial.source) (g.S.Source.left l.source) (BreaksBefore (told l.initial.section));
  still : g.S.Source.faults l.source ≡ g.S.Source.faults l.initial.source;
}

abbrev pub decreases-loop-start : goal.decreases-loop-start
decreases-loop-start g l = most_others - l.section.others
