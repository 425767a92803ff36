use Rattle.std.proofs.Common.{Some, refl}
use Rattle.zc_poll.proofs.PourTurns.{gave-pours}
use Rattle.flow_queues.specs.TallyOf.{tally_state_of}
use Rattle.zc_poll.proofs.to_shelf.give_back.Goals as goal

pub returns-in-Ok-clause-gives : goal.returns-in-Ok-clause-gives
returns-in-Ok-clause-gives g c = λ first kept losses now before.
    gave-pours first kept losses now (record (tally_state_of c.args.work.now) { due = Some c.args.loan }) (tally_state_of c.args.work.now) c.args.stream.now.desk c.give.new.self.desk
    (g.F.AppFace.seen c.args.stream.now.face) (g.F.AppFace.seen c.give.new.self.face) c.args.loan before refl c.in-Ok.ensures.view
    c.give.ensures.stays.stands c.give.ensures.stays.desk c.requires.due refl
    (record { counts = refl; written = refl; loans = refl; copied = refl; flows = refl; room = refl })
