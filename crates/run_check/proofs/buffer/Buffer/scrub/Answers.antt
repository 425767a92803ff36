use Rattle.std.proofs.Common.{arith}
use Rattle.run_check.proofs.Changing.{owed_counted, owed_used, scrub_changes, scrub_none, scrub_sound}
use Rattle.run_check.proofs.buffer.Buffer.scrub.Goals as goal

pub overflow_sub-self : goal.overflow_sub-self
overflow_sub-self c = omega (arith, owed_used c.self.inside c.args.self.now c.self.invariant c.self.view_is c.args.app (omega (arith, c.requires, c.self.told.0)) c.requires c.self.told.1)

pub overflow_sub-self-2 : goal.overflow_sub-self-2
overflow_sub-self-2 c = omega (arith, owed_counted c.self.inside c.args.self.now c.self.invariant c.self.view_is c.args.app (omega (arith, c.requires, c.self.told.0)) c.requires c.self.told.1)

pub invariant_of-self : goal.invariant_of-self
invariant_of-self c = scrub_sound c.self.inside c.args.self.now c.self.invariant c.self.view_is c.args.app (omega (arith, c.requires, c.self.told.0)) c.requires c.self.told.1

pub returns : goal.returns
returns c = scrub_changes c.self.inside c.args.self.now c.self.invariant c.self.view_is c.args.app (omega (arith, c.requires, c.self.told.0)) c.requires c.self.told.1 (omega arith)

pub returns-then-owed-eq0 : goal.returns-then-owed-eq0
returns-then-owed-eq0 c = scrub_none c.self.inside c.args.self.now c.self.invariant c.self.view_is c.args.app (omega (arith, c.requires, c.self.told.0)) c.requires c.self.told.1 (omega arith)
