use Rattle.std.proofs.Common.{sym, subst}
use Rattle.zc_forward.{specs.Carriage.{AreOut}, proofs.Out.{none_out}}
use Rattle.zc_forward.proofs.shelf_carrier.ShelfCarrierCarrier.cancel.Goals as goal

pub invariant_of-self : goal.invariant_of-self
invariant_of-self g c = subst (AreOut c.self.inside.delay) (sym c.clear.ensures) (none_out c.self.inside.delay c.self.invariant.small)
