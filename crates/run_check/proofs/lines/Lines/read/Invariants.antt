-- The bytes that were read so far are the begin of one line, and no read failed.
use Rattle.std.proofs.Common.{◌≡◌}
use Rattle.run_check.{specs.Coming.{ahead}, proofs.Coming.{HasReadPart}}
use Rattle.run_check.proofs.lines.Lines.read.Given as goal

abbrev pub invariant-loop : goal.invariant-loop
invariant-loop g l = record {
  part : HasReadPart (ahead l.fn.self.bytes (g.S.Source.left l.fn.source)) (ahead l.self.bytes (g.S.Source.left l.source)) l.self.line.items l.counter;
  still : g.S.Source.faults l.source ≡ g.S.Source.faults l.fn.source;
}
