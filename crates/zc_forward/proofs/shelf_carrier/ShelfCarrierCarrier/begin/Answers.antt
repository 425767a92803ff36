use Rattle.std.{proofs.Common.{◌≡◌, ◌<◌, ◌∙◌, None, sym, subst, ap, length, arith}, specs.{Prelude.{nat_eq}, Map.{lookup}}}
use Rattle.zc_forward.{specs.Carriage.{AreOut}, proofs.Out.{one_more}}
use Rattle.zc_forward.proofs.shelf_carrier.ShelfCarrierCarrier.begin.Goals as goal

pub push-requires : goal.push-requires
push-requires g c =
    let few : length c.self.inside.out.items < 64 = omega (arith, c.requires.few, ap (λ carriage. length carriage.out) c.self.view_is) in
    (omega arith, few)

pub invariant_of-self : goal.invariant_of-self
invariant_of-self g c =
    let free : lookup (nat_eq c.args.tag) c.self.inside.out.items ≡ None =
    ap (λ carriage. lookup (nat_eq c.args.tag) carriage.out) c.self.view_is ∙ c.requires.free in
    subst (AreOut c.self.inside.delay) (sym c.push.ensures.items)
    (one_more c.self.inside.delay c.args.tag c.args.flow c.self.inside.out.items c.self.invariant free)
