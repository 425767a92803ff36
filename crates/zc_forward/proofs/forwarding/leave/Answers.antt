use Rattle.std.proofs.Common.{rules, ◌≡◌, ◌∙◌, true, None, Option, refl, sym, ap, subst, inl, inr}
use Rattle.zr_kinds.specs.declared.place.Place.{Place}
use Rattle.board_face.specs.declared.views.app.{AppLook.TheVariants.{NotQuiet}, AppView.{AppView}}
use Rattle.flow_queues.specs.{Ends.{AppEnd, HasLeft}, Returned.{HasReturned}, TallyOf.{tally_state_of}}
use Rattle.zc_poll.{specs.{Standing.{Desk}, Pouring.{OnlyDue}, PourTurns.{pour_end}}, proofs.{PourEnds.{left-pours, returned-pours, work_end}, PourTurns.{saw-pours}}}
use Rattle.zc_forward.specs.{OutboxOf.{outbox_of}, Sending.{tags_of}, Forwarding.{ForwardStands}}
use Rattle.zc_forward.proofs.{Ends.{ends-pours, may-give-up, waits-forwards}, Scrubs.{quiet-aside}}
use Rattle.zc_forward.proofs.forwarding.leave.Goals as goal

pub abandon_kept-requires-clause-out : goal.abandon_kept-requires-clause-out
abandon_kept-requires-clause-out g c =
    let (first, got, losses, now, tags, before) = c.requires.stands in
    may-give-up (outbox_of c.args.work.now) (g.F.AppFace.seen c.args.stream.now.face) before.loans c.args.work.now.uncarried refl

pub leave-requires : goal.leave-requires
leave-requires g c =
    let (first, got, losses, now, tags, before) = c.requires.stands in
    let gone = c.abandon_kept.ensures in
    let poured = ends-pours first got losses now (outbox_of c.args.work.now) c.args.stream.now.desk c.abandon_kept.new.self.desk tags
    (g.F.AppFace.seen c.args.stream.now.face) (g.F.AppFace.seen c.abandon_kept.new.self.face) before c.requires.none c.requires.due gone.stays.stands gone.stays.desk
    c.args.work.now.uncarried refl gone.view in
    record {
      may = record {
        stands = gone.stays.stands;
        ended = ap (λ (d : Desk). d.ended) gone.stays.desk ∙ c.requires.ended;
        none = subst (λ (d : Option Place). OnlyDue d (g.F.AppFace.seen c.abandon_kept.new.self.face).loans) c.requires.due poured.due;
      };
    }

pub returns-then-not-leave-clause-gives : goal.returns-then-not-leave-clause-gives
returns-then-not-leave-clause-gives g c = λ first got losses now tags before.
    let gone = c.abandon_kept.ensures in
    let saw = c.if-not-leave.ensures.left in
    let poured = ends-pours first got losses now (outbox_of c.args.work.now) c.args.stream.now.desk c.abandon_kept.new.self.desk tags
    (g.F.AppFace.seen c.args.stream.now.face) (g.F.AppFace.seen c.abandon_kept.new.self.face) before c.requires.none c.requires.due gone.stays.stands gone.stays.desk
    c.args.work.now.uncarried refl gone.view in
    subst (λ (d : Option Place). ForwardStands first losses (outbox_of (record c.args.work.now { uncarried = d })) c.leave.new.self.desk tags got now
    (g.F.AppFace.seen c.leave.new.self.face)) (sym gone.none)
    (waits-forwards first got losses now (outbox_of (record c.args.work.now { uncarried = None })) c.leave.new.self.desk tags (g.F.AppFace.seen c.leave.new.self.face)
    (saw-pours first got losses now (tally_state_of c.args.work.now.tally) c.abandon_kept.new.self.desk c.leave.new.self.desk
    (g.F.AppFace.seen c.abandon_kept.new.self.face) (g.F.AppFace.seen c.leave.new.self.face) NotQuiet poured saw.1.event saw.0 c.leave.ensures.desk)
    c.requires.none (before.sent ∙ ap tags_of c.requires.none) refl c.requires.due (λ _. before.pressed c.requires.ended))

pub returns-clause-gives : goal.returns-clause-gives
returns-clause-gives g c = λ first got losses now tags before how.
    let gone = c.abandon_kept.ensures in
    let poured = ends-pours first got losses now (outbox_of c.args.work.now) c.args.stream.now.desk c.abandon_kept.new.self.desk tags
    (g.F.AppFace.seen c.args.stream.now.face) (g.F.AppFace.seen c.abandon_kept.new.self.face) before c.requires.none c.requires.due gone.stays.stands gone.stays.desk
    c.args.work.now.uncarried refl gone.view in
    let ended : c.abandon_kept.new.self.desk.ended ≡ true = ap (λ (d : Desk). d.ended) gone.stays.desk ∙ c.requires.ended in
    let left : AppEnd = pour_end c.of_tally-poured.result in
    let same : work_end (tally_state_of c.args.work.now.tally) ≡ left = search rules in (
      λ quit. subst (HasLeft how first got losses now (g.F.AppFace.seen c.leave.new.self.face)) same
          (subst (λ (v : AppView). HasLeft how first got losses now v (work_end (tally_state_of c.args.work.now.tally))) (sym c.if-not-leave.ensures.left)
          (left-pours first got losses now (tally_state_of c.args.work.now.tally) c.abandon_kept.new.self.desk
          (g.F.AppFace.seen c.abandon_kept.new.self.face) poured c.requires.due ended how quit)),
      λ leak stray. subst (λ (e : AppEnd). HasReturned how e.stopped e.written (g.F.AppFace.seen c.leave.new.self.face)) same
          (subst (λ (v : AppView). HasReturned how c.args.work.now.tally.stopped c.args.work.now.tally.written v) (sym c.if-not-leave.ensures.left)
          (returned-pours first got losses now (tally_state_of c.args.work.now.tally) c.abandon_kept.new.self.desk
          (g.F.AppFace.seen c.abandon_kept.new.self.face) poured c.requires.due ended how leak stray)),
    )

pub returns-then-not-leave-clause-scrubs : goal.returns-then-not-leave-clause-scrubs
returns-then-not-leave-clause-scrubs g c =
    let saw = c.if-not-leave.ensures.left.1 in
    quiet-aside c.args.work.now.uncarried (g.F.AppFace.seen c.args.stream.now.face) (g.F.AppFace.seen c.abandon_kept.new.self.face)
    (g.F.AppFace.seen c.leave.new.self.face) c.abandon_kept.ensures.view (λ no. inr (saw.rose, ap (λ (v : AppView). v.quiet) saw.event))

pub returns-clause-scrubs : goal.returns-clause-scrubs
returns-clause-scrubs g c = λ no. inl (ap (λ (v : AppView). v.scrubbed) c.if-not-leave.ensures.left)
