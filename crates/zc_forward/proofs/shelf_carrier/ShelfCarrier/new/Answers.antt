use Rattle.std.proofs.Common.{sym, subst}
use Rattle.zc_forward.{specs.Carriage.{AreOut}, proofs.Out.{none_out}}
use Rattle.zc_forward.proofs.shelf_carrier.ShelfCarrier.new.Goals as goal

pub invariant_of-result : goal.invariant_of-result
invariant_of-result g c = subst (AreOut c.args.delay) (sym c.new.ensures) (none_out c.args.delay c.requires)
