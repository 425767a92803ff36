use Rattle.std.{proofs.Common.{◌≡◌, [], ◌∷◌, ◌∙◌, true, sym, arith}, specs.List.{list_any}}
use Rattle.zr_kinds.specs.declared.holding.Holding.TheVariants as holding
use Rattle.zr_kinds.specs.Holders.{is_same}
use Rattle.run_check.specs.declared.places.Hand.TheVariants as hand
use Rattle.run_check.{specs.Places.{all_placed}, proofs.Changing.{by_flag, given_back, none_there_then, not_changed, owed_fits}}
use Rattle.run_check.proofs.buffer.Buffer.back.Goals as goal

pub overflow_add-self : goal.overflow_add-self
overflow_add-self c =
    let there : list_any (is_same (holding.Loan c.args.app c.args.offset c.args.len)) (all_placed c.self.inside.places.entries) ≡ true = sym c.is_there-there.ensures ∙ c.if-there.true in
    omega (arith, c.self.ranges, owed_fits c.self.inside c.args.self.now c.self.invariant c.self.view_is c.args.app c.args.offset c.args.len c.remove.new.self there c.remove.ensures.entries (omega (arith, c.requires, c.self.told.0)))

pub invariant_of-self : goal.invariant_of-self
invariant_of-self c =
    let there : list_any (is_same (holding.Loan c.args.app c.args.offset c.args.len)) (all_placed c.self.inside.places.entries) ≡ true = sym c.is_there-there.ensures ∙ c.if-there.true in
    (given_back c.self.inside c.args.self.now c.self.invariant c.self.view_is c.args.app c.args.offset c.args.len c.remove.new.self there c.remove.ensures.entries (omega (arith, c.requires, c.self.told.0))).sound

pub returns-then-there : goal.returns-then-there
returns-then-there c =
    let there : list_any (is_same (holding.Loan c.args.app c.args.offset c.args.len)) (all_placed c.self.inside.places.entries) ≡ true = sym c.is_there-there.ensures ∙ c.if-there.true in
    by_flag _ _ _ c.if-there.true
    (given_back c.self.inside c.args.self.now c.self.invariant c.self.view_is c.args.app c.args.offset c.args.len c.remove.new.self there c.remove.ensures.entries (omega (arith, c.requires, c.self.told.0))).changes

pub returns-else-there : goal.returns-else-there
returns-else-there c =
    not_changed (holding.Loan c.args.app c.args.offset c.args.len) (holding.Owed c.args.app ∷ []) c.args.self.now _ c.if-there.false
    (none_there_then c.self.inside c.args.self.now c.self.invariant c.self.view_is (hand.Loan c.args.app) c.args.offset c.args.len (sym c.is_there-there.ensures ∙ c.if-there.false))
