use Rattle.std.proofs.Common.{◌≡◌, refl, subst}
use Rattle.zr_kinds.specs.declared.place.Place.{Place}
use Rattle.board_face.specs.declared.views.app.AppView.{AppView}
use Rattle.zc_forward.{specs.{declared.outbox.Outbox.{Outbox as Kept}, OutboxOf.{outbox_of}, Turns.{with_due}}, proofs.Live.{has-out}}
use Rattle.zc_forward.proofs.Forwards.{goes-back, sent-out, told-forwards, back-work}
use Rattle.zc_forward.proofs.forwarding.take_notice.Goals as goal

pub give_back-requires-clause-holds : goal.give_back-requires-clause-holds
give_back-requires-clause-holds g c =
    let v : AppView = g.F.AppFace.seen c.args.stream.now.face in
    let loan : Place = c.take_sent-loan.result in
    let (first, got, losses, now, was, tags, before, took) = c.requires.stands in
    let (flow, there) = c.take_sent-loan.ensures.was in
    record {
      stands = before.stands;
      out = has-out v loan (sent-out (outbox_of c.args.work.now) v.loans (record { tag = c.args.tag; flow = flow; loan = loan }) before.loans there);
    }

pub returns-clause-gives : goal.returns-clause-gives
returns-clause-gives g c = λ first got losses now was tags before took.
    let mid : Kept = record c.args.work.now { out = c.take_sent-loan.new.out } in
    c.give_back.ensures.gives first got losses now tags
    (told-forwards first got losses now (outbox_of c.args.work.now) (outbox_of mid) c.args.stream.now.desk was tags c.args.tag c.take_sent-loan.result
    (g.F.AppFace.seen c.args.stream.now.face) before took c.requires.due c.take_sent-loan.ensures.tags c.take_sent-loan.ensures.loans c.take_sent-loan.ensures.many refl)

pub returns-clause-told : goal.returns-clause-told
returns-clause-told g c = λ was tags pace later took.
    let mid : Kept = record c.args.work.now { out = c.take_sent-loan.new.out } in
    let (flow, i, there, left) = c.take_sent-loan.ensures.at in
    let back = back-work c.take_sent-loan.result (outbox_of mid) (outbox_of c.give_back.new.work) (g.F.AppFace.seen c.args.stream.now.face)
    (g.F.AppFace.seen c.give_back.new.stream.face) c.give_back.result c.give_back.ensures.back in
    record {
      sent = record { tag = c.args.tag; flow = flow; loan = c.take_sent-loan.result };
      at = i;
      is = there;
      took = took;
      work = subst (λ out. outbox_of c.give_back.new.work ≡ with_due (record (outbox_of c.args.work.now) { out = out }) (outbox_of c.give_back.new.work).tally.due)
          left back;
      back = goes-back c.take_sent-loan.result (outbox_of mid) (outbox_of c.give_back.new.work) (g.F.AppFace.seen c.args.stream.now.face)
          (g.F.AppFace.seen c.give_back.new.stream.face) c.give_back.result c.give_back.ensures.back c.requires.due;
      desk = c.give_back.ensures.desk;
    }
