use Rattle.std.{proofs.Common.{◌≡◌, ◌++◌}, specs.Io.KnownBytes.{Appends}}
use Rattle.cap_make.specs.GeneratedCapture.{drawn, file_header, generated_records}
use Rattle.cap_make.proofs.generator.make.Given as goal

abbrev pub invariant-loop-k : goal.invariant-loop-k
invariant-loop-k g l =
    (l.x ≡ drawn l.seed l.k)
    × (g.O.Sink.faults l.out ≡ g.O.Sink.faults l.fn.out)
    × Appends (g.O.Sink.sent l.fn.out) (g.O.Sink.sent l.out) (file_header ++ generated_records l.seed l.k)
