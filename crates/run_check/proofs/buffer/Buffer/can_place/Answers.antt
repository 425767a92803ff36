use Rattle.std.proofs.Common.{◌∙◌, sym, arith, refl}
use Rattle.run_check.proofs.Changing.{may_place, own_there}
use Rattle.run_check.proofs.buffer.Buffer.can_place.Goals as goal

pub returns-then-not-is_card : goal.returns-then-not-is_card
returns-then-not-is_card c = rw (own_there c.self.inside c.args.self.now c.self.invariant c.self.view_is, ← c.if-not-is_card.ensures) refl

pub returns : goal.returns
returns c =
    c.are_apart.ensures ∙ sym (may_place c.self.inside c.args.self.now c.self.invariant c.self.view_is c.args.offset c.args.len (sym c.if-not-is_card.ensures) (omega arith) (omega arith))
