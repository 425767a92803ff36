use Rattle.std.proofs.Common.{arith}
use Rattle.zr_kinds.specs.declared.holding.Holding.TheVariants as holding
use Rattle.run_check.proofs.Changing.{begun}
use Rattle.run_check.proofs.buffer.Buffer.take.Goals as goal

pub returns : goal.returns
returns c = begun c.self.inside c.args.self.now c.self.invariant c.self.view_is c.args.may holding.Own (omega arith) c.if-not-may.false
