use Rattle.zc_poll.{proofs.Waiting.{yields-then}}
use Rattle.zc_poll.proofs.stream.LoanStreamStream.poll_next.Goals as goal

pub returns-in-Waiting-clause-same : goal.returns-in-Waiting-clause-same
returns-in-Waiting-clause-same g c =
    rw c.yield_now.ensures.pending
    (yields-then c.args.self.now.desk c.step.new.self.desk (g.F.AppFace.seen c.args.self.now.face) (g.F.AppFace.seen c.step.new.self.face) c.in-Waiting.field-0
    c.step.ensures.stepped.only c.in-Waiting.ensures.stepped.steps)
