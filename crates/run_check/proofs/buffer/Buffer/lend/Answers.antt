use Rattle.std.{proofs.Common.{◌≡◌, [], ◌∷◌, ◌∙◌, true, sym, arith}, specs.List.{list_any}}
use Rattle.zr_kinds.specs.declared.holding.Holding.TheVariants as holding
use Rattle.zr_kinds.specs.Holders.{is_same}
use Rattle.run_check.specs.declared.places.Hand.TheVariants as hand
use Rattle.run_check.{specs.Places.{all_placed}, proofs.Changing.{by_flag, lent, lent_fits, none_there_then, not_changed}}
use Rattle.run_check.proofs.buffer.Buffer.lend.Goals as goal

pub overflow_add-self : goal.overflow_add-self
overflow_add-self c =
    let there : list_any (is_same (holding.Held c.args.app c.args.offset c.args.len)) (all_placed c.self.inside.places.entries) ≡ true = sym c.is_there-there.ensures ∙ c.if-there.true in
    omega (arith, c.self.ranges, lent_fits c.self.inside c.args.self.now c.self.invariant c.self.view_is c.args.app c.args.offset c.args.len (omega (arith, c.requires, c.self.told.1)) c.insert.new.self there c.in_ok-insert.ensures.entries c.requires)

pub invariant_of-self-then-there : goal.invariant_of-self-then-there
invariant_of-self-then-there c =
    let there : list_any (is_same (holding.Held c.args.app c.args.offset c.args.len)) (all_placed c.self.inside.places.entries) ≡ true = sym c.is_there-there.ensures ∙ c.if-there.true in
    (lent c.self.inside c.args.self.now c.self.invariant c.self.view_is c.args.app c.args.offset c.args.len (omega (arith, c.requires, c.self.told.1)) c.insert.new.self there c.in_ok-insert.ensures.entries).sound

pub returns-in_ok-insert : goal.returns-in_ok-insert
returns-in_ok-insert c =
    let there : list_any (is_same (holding.Held c.args.app c.args.offset c.args.len)) (all_placed c.self.inside.places.entries) ≡ true = sym c.is_there-there.ensures ∙ c.if-there.true in
    by_flag _ _ _ c.if-there.true
    (lent c.self.inside c.args.self.now c.self.invariant c.self.view_is c.args.app c.args.offset c.args.len (omega (arith, c.requires, c.self.told.1)) c.insert.new.self there c.in_ok-insert.ensures.entries).changes

pub returns-else-there : goal.returns-else-there
returns-else-there c =
    not_changed (holding.Held c.args.app c.args.offset c.args.len) (holding.Loan c.args.app c.args.offset c.args.len ∷ []) c.args.self.now _ c.if-there.false
    (none_there_then c.self.inside c.args.self.now c.self.invariant c.self.view_is (hand.App c.args.app) c.args.offset c.args.len (sym c.is_there-there.ensures ∙ c.if-there.false))
