use Rattle.std.proofs.Common.{rules, ◌≡◌, ap, sym, subst}
use Rattle.zr_kinds.specs.declared.behaviour.Stopped.TheVariants as stop
use Rattle.board_face.specs.declared.views.app.AppView.{AppView}
use Rattle.flow_queues.specs.{Ends.{AppEnd}, Counting.{with_bytes, quit_by}}
use Rattle.zc_poll.{specs.{PourTurns.{pour_end}, Stops.{HasStopped}}, proofs.Stopping.{quit-some, quit-write, stopped-pours}}
use Rattle.zc_forward.{specs.{OutboxOf.{outbox_of}, Forwarding.{ForwardStands}, Turns.{ForwardView}}, proofs.{Forwards.{kept-forwards}, AllGone.{all-gone}}}
use Rattle.zc_forward.proofs.forward.Forward.stop.Goals as goal

pub returns-clause-stops : goal.returns-clause-stops
returns-clause-stops g c = λ first losses before.
    let inside = c.self.inside in
    let v : AppView = g.F.AppFace.seen inside.stream.face in
    let z : AppView = g.F.AppFace.seen c.halt.new.stream.face in
    let w = (outbox_of inside.work).tally in
    let on : ForwardStands first losses (outbox_of inside.work) inside.stream.desk (g.C.Carrier.tags inside.carrier) (g.C.Carrier.got inside.carrier)
    (g.C.Carrier.counts inside.carrier) v =
    subst (λ (s : ForwardView g.row.F.Denot g.row.C.Denot). ForwardStands first losses s.work s.desk (g.C.Carrier.tags s.carrier) (g.C.Carrier.got s.carrier)
    (g.C.Carrier.counts s.carrier) (g.F.AppFace.seen s.face)) (sym c.self.view_is) before in
    let now = kept-forwards first (g.C.Carrier.got inside.carrier) (g.C.Carrier.got c.halt.new.carrier) losses (g.C.Carrier.counts inside.carrier)
    (g.C.Carrier.counts c.halt.new.carrier) (outbox_of inside.work) inside.stream.desk (g.C.Carrier.tags inside.carrier) v on c.halt.ensures.carrier.got c.halt.ensures.carrier.counts in
    let end : AppEnd = pour_end c.of_tally-poured.result in
    let same : record { written = w.written; loans = w.loans; copied = w.copied; stopped = quit_by w.stopped; flows = with_bytes w.counts } ≡ end = search rules in
    let (y, gave, none, view) = c.halt.ensures.halts.gave_up in
    subst (HasStopped first (g.C.Carrier.got c.halt.new.carrier) z) same
    (stopped-pours (w.stopped ≡ stop.Write) first (g.C.Carrier.got c.halt.new.carrier) w inside.stream.desk v now.items now.torn now.missing now.poured
    now.stands.common.found z (quit_by w.stopped) (quit-some w.stopped) (quit-write w.stopped) (all-gone v y z gave view c.halt.ensures.halts.still.2)
    (ap (λ (k : AppView). k.helds) view))
