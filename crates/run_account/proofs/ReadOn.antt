-- A source that nothing read on behind the ending of the reading.
use Rattle.std.proofs.{Common.{Option, refl, arith}, KnownBytes.{Keeps-refl}}
use Rattle.zr_kinds.specs.declared.fault.Fault.{Fault}
use Rattle.zr_io.proofs.Moved.{Took-nothing}
use Rattle.run_account.specs.{Ran.{HasReadOn}, Views.{SourceSeen}}

pub HasReadOn-refl : {S : Type 0} (m : SourceSeen S) (source : S) (end : Option Fault) → HasReadOn m source source end
HasReadOn-refl m source end = record {
  same = λ memory flows. refl;
  taken = Took-nothing (m.left source) (m.left source) (λ bytes. Unit {0}) (Keeps-refl (m.left source)) tt;
  later = omega arith;
}
