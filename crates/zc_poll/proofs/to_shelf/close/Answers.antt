use Rattle.std.proofs.Common.{rules, ◌≡◌, ap, inl, inr, sym, subst}
use Rattle.board_face.specs.declared.views.app.{AppLook.TheVariants.{NotQuiet}, AppView.{AppView}}
use Rattle.flow_queues.specs.{Ends.{AppEnd, HasLeft}, Returned.{HasReturned}, TallyOf.{tally_state_of}}
use Rattle.zc_poll.{specs.PourTurns.{pour_end}, proofs.{PourEnds.{left-pours, returned-pours, work_end}, PourTurns.{saw-pours}}}
use Rattle.zc_poll.proofs.to_shelf.close.Goals as goal

pub returns-then-not-leave-clause-gives : goal.returns-then-not-leave-clause-gives
returns-then-not-leave-clause-gives g c =
    let saw = c.if-not-leave.ensures.left in
    λ first kept losses now before.
    saw-pours first kept losses now (tally_state_of c.args.work.now) c.args.stream.now.desk c.leave.new.self.desk (g.F.AppFace.seen c.args.stream.now.face)
    (g.F.AppFace.seen c.leave.new.self.face) NotQuiet before saw.1.event saw.0 c.leave.ensures.desk

pub returns-clause-gives : goal.returns-clause-gives
returns-clause-gives g c = λ first kept losses now before how.
    let left : AppEnd = pour_end c.of_tally-poured.result in
    let same : work_end (tally_state_of c.args.work.now) ≡ left = search rules in (
      λ quit. subst (HasLeft how first kept losses now (g.F.AppFace.seen c.leave.new.self.face)) same
          (subst (λ (v : AppView). HasLeft how first kept losses now v (work_end (tally_state_of c.args.work.now))) (sym c.if-not-leave.ensures.left)
          (left-pours first kept losses now (tally_state_of c.args.work.now) c.args.stream.now.desk (g.F.AppFace.seen c.args.stream.now.face) before
          c.requires.due
          c.requires.may.ended how quit)),
      λ leak stray. subst (λ (e : AppEnd). HasReturned how e.stopped e.written (g.F.AppFace.seen c.leave.new.self.face)) same
          (subst (λ (v : AppView). HasReturned how c.args.work.now.stopped c.args.work.now.written v) (sym c.if-not-leave.ensures.left)
          (returned-pours first kept losses now (tally_state_of c.args.work.now) c.args.stream.now.desk (g.F.AppFace.seen c.args.stream.now.face) before c.requires.due
          c.requires.may.ended how leak stray)),
    )

pub returns-then-not-leave-clause-scrubs : goal.returns-then-not-leave-clause-scrubs
returns-then-not-leave-clause-scrubs g c =
    let saw = c.if-not-leave.ensures.left.1 in λ no. inr (saw.rose, ap (λ (v : AppView). v.quiet) saw.event)

pub returns-clause-scrubs : goal.returns-clause-scrubs
returns-clause-scrubs g c = λ no. inl (ap (λ (v : AppView). v.scrubbed) c.if-not-leave.ensures.left)
