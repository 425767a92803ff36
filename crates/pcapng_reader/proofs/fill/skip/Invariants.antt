-- What was passed over so far is what was taken from the source.
use Rattle.std.proofs.Common.{◌≡◌, ◌-◌, ◌≤◌, length}
use Rattle.zr_io.specs.Moved.{Took}
use Rattle.pcapng_reader.proofs.fill.skip.Given as goal

abbrev pub invariant-loop-left : goal.invariant-loop-left
invariant-loop-left g l = record {
  within : l.left ≤ l.fn.count;
  taken : Took (g.S.Source.left l.initial.source) (g.S.Source.left l.source) (λ taken. length taken ≡ l.fn.count - l.left);
  still : g.S.Source.faults l.source ≡ g.S.Source.faults l.initial.source;
}

abbrev pub decreases-loop-left : goal.decreases-loop-left
decreases-loop-left g l = l.left
