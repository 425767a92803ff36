use Rattle.std.proofs.{lemmas.Bool.{le-ltb, lt-ltb}, Common.{get_or, [], ◌∙◌, arith}}
use Rattle.zr_kinds.specs.declared.holding.Holding.TheVariants as holding
use Rattle.run_check.proofs.Changing.{by_flag, honoured, not_changed, owed_counted, owed_there, owed_used}
use Rattle.run_check.proofs.buffer.Buffer.honour.Goals as goal

pub overflow_sub-self-then-some : goal.overflow_sub-self-then-some
overflow_sub-self-then-some c = omega (arith, owed_used c.self.inside c.args.self.now c.self.invariant c.self.view_is c.args.app (omega (arith, c.requires, c.self.told.0)) c.requires c.self.told.1)

pub overflow_sub-self-then-some-2 : goal.overflow_sub-self-then-some-2
overflow_sub-self-then-some-2 c = omega (arith, owed_counted c.self.inside c.args.self.now c.self.invariant c.self.view_is c.args.app (omega (arith, c.requires, c.self.told.0)) c.requires c.self.told.1)

pub invariant_of-self : goal.invariant_of-self
invariant_of-self c = (honoured c.self.inside c.args.self.now c.self.invariant c.self.view_is c.args.app (omega (arith, c.requires, c.self.told.0)) c.requires c.self.told.1 c.if-some.true).sound

pub returns-then-some : goal.returns-then-some
returns-then-some c = by_flag _ _ _ (lt-ltb 0 (get_or c.self.inside.owed c.args.app 0) c.if-some.true) (honoured c.self.inside c.args.self.now c.self.invariant c.self.view_is c.args.app (omega (arith, c.requires, c.self.told.0)) c.requires c.self.told.1 c.if-some.true).changes

pub returns-else-some : goal.returns-else-some
returns-else-some c = not_changed (holding.Owed c.args.app) [] c.args.self.now _ (le-ltb 0 (get_or c.self.inside.owed c.args.app 0) c.if-some.false)
    (owed_there c.self.inside c.args.self.now c.self.invariant c.self.view_is c.args.app (omega (arith, c.requires, c.self.told.0))
    ∙ le-ltb 0 (get_or c.self.inside.owed c.args.app 0) c.if-some.false)
