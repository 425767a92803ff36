use Rattle.std.proofs.Common.{rules}
use Rattle.zc_poll.proofs.Untouched.{stands-at-first}
use Rattle.zc_poll.proofs.stream.LoanStream.new.Goals as goal

pub returns-clause-stands : goal.returns-clause-stands
returns-clause-stands g c = stands-at-first c.args.app (g.F.AppFace.seen c.args.face) c.requires _ (search rules)
