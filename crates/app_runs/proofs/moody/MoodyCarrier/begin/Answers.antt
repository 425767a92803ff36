use Rattle.std.{proofs.Common.{◌≡◌, ◌∙◌, None, sym, subst, ap}, specs.{Prelude.{nat_eq}, Map.{lookup}}}
use Rattle.zc_forward.{specs.Carriage.{AreOut}, proofs.Out.{one_more}}
use Rattle.app_runs.proofs.moody.MoodyCarrier.begin.Goals as goal

pub invariant_of-self : goal.invariant_of-self
invariant_of-self g c =
    let free : lookup (nat_eq c.args.tag) c.self.inside.out.items ≡ None =
    ap (λ mind. lookup (nat_eq c.args.tag) mind.out) c.self.view_is ∙ ap (lookup (nat_eq c.args.tag)) c.if-fails.ensures.shelf.1 ∙ c.requires.free in
    subst (AreOut 0) (sym c.push.ensures.items) (one_more 0 c.args.tag c.args.flow c.self.inside.out.items c.self.invariant free)
