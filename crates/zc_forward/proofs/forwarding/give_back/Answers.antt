use Rattle.std.proofs.Common.{Some, sym, subst}
use Rattle.zr_kinds.specs.declared.place.Place.{Place}
use Rattle.board_face.specs.declared.views.app.AppLook.TheVariants.{RefillInUse}
use Rattle.zc_forward.{specs.{OutboxOf.{outbox_of}, Forwarding.{ForwardStands}, Turns.{with_due}}, proofs.Forwards.{gave-forwards, saw-forwards}}
use Rattle.zc_forward.proofs.forwarding.give_back.Goals as goal

pub returns-in-Ok-clause-gives : goal.returns-in-Ok-clause-gives
returns-in-Ok-clause-gives g c = λ first got losses now tags before.
    gave-forwards first got losses now (outbox_of c.args.work.now) c.args.stream.now.desk c.give.new.self.desk tags (g.F.AppFace.seen c.args.stream.now.face)
    (g.F.AppFace.seen c.give.new.self.face) c.args.loan before c.requires.due c.in-Ok.ensures.view c.give.ensures.stays.stands c.give.ensures.stays.desk

pub returns-in-Err-clause-gives : goal.returns-in-Err-clause-gives
returns-in-Err-clause-gives g c = λ first got losses now tags before.
    let saw = c.in-Err.ensures.view in
    subst (λ (p : Place). ForwardStands first losses (with_due (outbox_of c.args.work.now) (Some p)) c.give.new.self.desk tags got now (g.F.AppFace.seen c.give.new.self.face))
    (sym saw.0)
    (saw-forwards first got losses now (with_due (outbox_of c.args.work.now) (Some c.args.loan)) c.args.stream.now.desk c.give.new.self.desk tags
    (g.F.AppFace.seen c.args.stream.now.face) (g.F.AppFace.seen c.give.new.self.face) RefillInUse before saw.1.event c.give.ensures.stays.stands c.give.ensures.stays.desk)
