use Rattle.std.proofs.Common.{rules, sym, ap, subst}
use Rattle.board_face.specs.declared.views.app.AppView.{AppView}
use Rattle.flow_queues.specs.{Kept.{QueueState}, KeptOf.{queue_state}}
use Rattle.zc_poll.{specs.{Standing.{Desk, queues_of_desk}, DeskOf.{desk_of}}, proofs.{FlowsKept.{with_queues, work-of}, Lends.{LentAs, item-is, held-stepped}}}
use Rattle.zc_poll.proofs.lending.offer.Goals as goal
use Rattle.zc_poll.proofs.lending.offer.Goals.{in-Lent, in-LentCopy}

pub lend-requires-clause-work : goal.lend-requires-clause-work
lend-requires-clause-work g c =
    work-of (desk_of c.args.st.now) (g.F.AppFace.seen c.args.face.now) c.requires.stands.common.here (c.requires.stands.going (search rules) c.requires.more)

pub returns-in-ReserveHeld-clause-offers : goal.returns-in-ReserveHeld-clause-offers
returns-in-ReserveHeld-clause-offers g c =
    let was : Desk = desk_of c.args.st.now in
    let lends = c.in-ReserveHeld.ensures.lends in (
      held-stepped was (g.F.AppFace.seen c.args.face.now) (g.F.AppFace.seen c.lend.new.face) c.requires.stands c.requires.more
          (search rules) _ (ap (with_queues was) lends.0) lends.1,
      tt,
    )

pub returns-clause-offers : goal.returns-clause-offers
returns-clause-offers g c =
    let was : Desk = desk_of c.args.st.now in
    let now : QueueState = queue_state c.lend.new.st in
    let old : AppView = g.F.AppFace.seen c.args.face.now in
    let new : AppView = g.F.AppFace.seen c.lend.new.face in
    let lends : LentAs (queues_of_desk was) now old new c.match-lend.lending = elim c.match-lend.branch [
      | in-Lent w ↦ subst (LentAs (queues_of_desk was) now old new) (sym w.lending-is) w.in-Lent.ensures.lends
      | in-LentCopy w ↦ subst (LentAs (queues_of_desk was) now old new) (sym w.lending-is) w.in-LentCopy.ensures.lends
    ] in (
      item-is was old new c.requires.stands c.requires.more (search rules) now c.match-lend.lending.0 c.match-lend.lending.1 lends c.index_mut-own.result.now
          c.index_mut-own.ensures.value c.item.ensures.sound c.item.result c.item.new.own c.item.ensures.item c.item.ensures.flow,
      tt,
    )
