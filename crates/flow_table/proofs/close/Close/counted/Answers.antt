use Rattle.std.proofs.Common.{rules, sym}
use Rattle.flow_table.proofs.Distance.{ahead_of, behind_of}
use Rattle.flow_table.proofs.close.Close.counted.Goals as goal

pub returns-then-ahead-clause-counted : goal.returns-then-ahead-clause-counted
returns-then-ahead-clause-counted c =
    let near = ahead_of c.in-Some.end c.first_byte.result (search rules) (search rules) c.if-ahead.true in
    rw (c.if-self.false, c.in-Some.is, sym c.first_byte.ensures, near) c.min.ensures

pub returns-else-ahead-clause-counted : goal.returns-else-ahead-clause-counted
returns-else-ahead-clause-counted c =
    let far = behind_of c.in-Some.end c.first_byte.result (search rules) (search rules) c.if-ahead.false in
    rw (c.if-self.false, c.in-Some.is, sym c.first_byte.ensures, far) (search rules)
