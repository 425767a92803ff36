use Rattle.std.proofs.Common.{sym, subst, arith}
use Rattle.zc_forward.{specs.Carriage.{AreOut}, proofs.Out.{none_out}}
use Rattle.app_runs.proofs.moody.MoodyCarrier.cancel.Goals as goal

pub invariant_of-self : goal.invariant_of-self
invariant_of-self g c = subst (AreOut 0) (sym c.clear.ensures) (none_out 0 (omega arith))
