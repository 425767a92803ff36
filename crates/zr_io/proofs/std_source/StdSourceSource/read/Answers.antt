use Rattle.std.proofs.Common.{ap, arith}
use Rattle.zr_io.proofs.std_source.StdSourceSource.read.Goals as goal

pub returns-in-Err-clause-cause : goal.returns-in-Err-clause-cause
returns-in-Err-clause-cause g c = record {
  still = tt;
  later = omega (arith, ap (λ s. s.faults) c.self.view_is, c.raise.ensures.later);
  failed = omega (arith, ap (λ s. s.faults) c.self.view_is, c.raise.ensures.value);
}
