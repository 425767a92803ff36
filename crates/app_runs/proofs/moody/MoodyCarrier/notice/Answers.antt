use Rattle.std.proofs.Common.{ap, subst, Some}
use Rattle.zc_forward.specs.Tags.{TakesTag}
use Rattle.app_runs.proofs.Latest.{told-last}
use Rattle.app_runs.proofs.moody.MoodyCarrier.notice.Goals as goal

pub invariant_of-self-2 : goal.invariant_of-self-2
invariant_of-self-2 g c =
    (told-last c.self.inside.out.items c.pop.new.self.items (c.in-Some.tag, c.in-Some.field-0-1) c.self.invariant c.in-Some.ensures.items).1

pub returns-clause-told : goal.returns-clause-told
returns-clause-told g c =
    subst (λ out. TakesTag out c.pop.new.self.items (Some c.in-Some.tag)) (ap (λ mind. mind.out) c.self.view_is)
    (told-last c.self.inside.out.items c.pop.new.self.items (c.in-Some.tag, c.in-Some.field-0-1) c.self.invariant c.in-Some.ensures.items).0
