use Rattle.std.proofs.Common.{None, refl, ap, sym, subst, ◌∙◌}
use Rattle.board_face.specs.declared.views.app.{LentPiece.{LentPiece}, AppView.{AppView}}
use Rattle.flow_queues.specs.Core.{total}
use Rattle.zc_forward.specs.{OutboxOf.{outbox_of}, Sending.{AreLoans, OutboxState}, GivenUp.{GaveUp}, Turns.{with_due}}
use Rattle.zc_forward.proofs.{Ends.{may-give-up}, AllGone.{gave-aside, gave-due, gave-then, has-due, left-aside, left-due}}
use Rattle.zc_forward.proofs.stopping.give_up_kept.Goals as goal

pub abandon_kept-requires-clause-out : goal.abandon_kept-requires-clause-out
abandon_kept-requires-clause-out g c =
    let (first, got, losses, now, tags, before) = c.requires.stands in
    has-due (outbox_of c.args.work.now) (g.F.AppFace.seen c.args.stream.now.face) before.loans c.args.work.now.tally.due refl

pub abandon_kept-requires-2-clause-out : goal.abandon_kept-requires-2-clause-out
abandon_kept-requires-2-clause-out g c =
    let (first, got, losses, now, tags, before) = c.requires.stands in
    let w : OutboxState = outbox_of c.args.work.now in
    let v : AppView = g.F.AppFace.seen c.args.stream.now.face in
    let left = left-due w v before.loans before.stands.common.apart c.args.work.now.tally.due refl in
    let y : AppView = g.F.AppFace.seen c.abandon_kept.new.self.face in
    may-give-up (with_due w None) y (subst (λ (k : AppView). AreLoans (with_due w None) k.loans) (sym c.abandon_kept.ensures.view) left)
    c.args.work.now.uncarried refl

pub returns-clause-gave_up : goal.returns-clause-gave_up
returns-clause-gave_up g c =
    let (first, got, losses, now, tags, before) = c.requires.stands in
    let w : OutboxState = outbox_of c.args.work.now in
    let v : AppView = g.F.AppFace.seen c.args.stream.now.face in
    let y : AppView = g.F.AppFace.seen c.abandon_kept.new.self.face in
    let apart = before.stands.common.apart in
    let left = left-due w v before.loans apart c.args.work.now.tally.due refl in
    let are : AreLoans (with_due w None) y.loans = subst (λ (k : AppView). AreLoans (with_due w None) k.loans) (sym c.abandon_kept.ensures.view) left in
    let first_gone : GaveUp v y = subst (GaveUp v) (sym c.abandon_kept.ensures.view) (gave-due w v before.loans apart c.args.work.now.tally.due refl) in
    gave-then v y (g.F.AppFace.seen c.abandon_kept-2.new.self.face) first_gone
    (subst (GaveUp y) (sym c.abandon_kept-2.ensures.view)
    (gave-aside (with_due w None) y are c.abandon_kept.ensures.stays.stands.common.apart c.args.work.now.uncarried refl))

pub returns-clause-loans : goal.returns-clause-loans
returns-clause-loans g c =
    let (first, got, losses, now, tags, before) = c.requires.stands in
    let w : OutboxState = outbox_of c.args.work.now in
    let v : AppView = g.F.AppFace.seen c.args.stream.now.face in
    let y : AppView = g.F.AppFace.seen c.abandon_kept.new.self.face in
    let left = left-due w v before.loans before.stands.common.apart c.args.work.now.tally.due refl in
    let are : AreLoans (with_due w None) y.loans = subst (λ (k : AppView). AreLoans (with_due w None) k.loans) (sym c.abandon_kept.ensures.view) left in
    λ f. ap (λ (k : AppView). total (λ (l : LentPiece). f l.place) k.loans) c.abandon_kept-2.ensures.view
    ∙ left-aside (with_due w None) y are c.abandon_kept.ensures.stays.stands.common.apart refl c.args.work.now.uncarried refl f
