use Rattle.std.proofs.Common.{sym, subst, arith}
use Rattle.zc_forward.{specs.Carriage.{AreOut}, proofs.Out.{none_out}}
use Rattle.app_runs.proofs.moody.Moody.new.Goals as goal

pub invariant_of-result : goal.invariant_of-result
invariant_of-result g c = subst (AreOut 0) (sym c.new.ensures) (none_out 0 (omega arith))
