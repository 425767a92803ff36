use Rattle.zc_poll.{specs.PourTurns.{pour_stage}, proofs.PourTurns.{tried}}
use Rattle.zc_poll.proofs.to_shelf.pour_item.Goals as goal

pub returns-in-Some-clause-had : goal.returns-in-Some-clause-had
returns-in-Some-clause-had g c = λ was item only.
    tried was (pour_stage c.give_back.new.work.due c.give_back.new.stream.desk (g.F.AppFace.seen c.give_back.new.stream.face)) c.args.stream.now.desk
    c.pour.new.stream.desk (g.F.AppFace.seen c.args.stream.now.face) (g.F.AppFace.seen c.pour.new.stream.face) c.args.lent c.in-Some.loan c.give_back.result
    item only c.in-Some.ensures.read c.give_back.ensures.desk c.give_back.ensures.does
