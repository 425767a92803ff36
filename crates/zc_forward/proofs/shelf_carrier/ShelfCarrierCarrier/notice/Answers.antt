use Rattle.std.proofs.Common.{◌∙◌, ap, sym, subst, Some, arith}
use Rattle.zc_forward.{specs.Tags.{TakesTag}, proofs.Out.{oldest_is, one_less, same_beside}}
use Rattle.zc_forward.proofs.shelf_carrier.ShelfCarrierCarrier.notice.Goals as goal

pub invariant_of-self-2 : goal.invariant_of-self-2
invariant_of-self-2 g c =
    (one_less c.self.inside.delay c.self.inside.out.items c.remove-tag.new.self.items c.remove-tag.result c.self.invariant
    (omega (arith, c.if-len-waiting.false, c.len.ensures.value)) c.remove-tag.ensures.value c.remove-tag.ensures.items).1

pub returns-clause-told : goal.returns-clause-told
returns-clause-told g c =
    subst (λ out. TakesTag out c.remove-tag.new.self.items (Some c.remove-tag.result.0)) (ap (λ carriage. carriage.out) c.self.view_is)
    (one_less c.self.inside.delay c.self.inside.out.items c.remove-tag.new.self.items c.remove-tag.result c.self.invariant
    (omega (arith, c.if-len-waiting.false, c.len.ensures.value)) c.remove-tag.ensures.value c.remove-tag.ensures.items).0

pub returns-clause-oldest : goal.returns-clause-oldest
returns-clause-oldest g c =
    let first = oldest_is c.self.inside.out.items c.remove-tag.new.self.items c.remove-tag.result (omega (arith, c.if-len-waiting.false, c.len.ensures.value))
    c.remove-tag.ensures.value c.remove-tag.ensures.items in
    (c.remove-tag.result.1, sym (ap (λ carriage. carriage.out) c.self.view_is) ∙ first, same_beside _ _ c.remove-tag.new.self.items c.self.view_is)
