use Rattle.std.proofs.Common.{rules, ◌≡◌, ◌≢◌, ◌∙◌, [], None, ap, sym, subst}
use Rattle.zr_kinds.specs.declared.behaviour.Stopped.TheVariants as stop
use Rattle.zc_poll.specs.PourTurns.{ScrubsIfQuiet}
use Rattle.board_face.specs.declared.views.app.AppView.{AppView}
use Rattle.zc_forward.specs.{OutboxOf.{outbox_of}, Sending.{tags_of}, Tags.{Pace, PaceGoes}, Forwarding.{ForwardStands}, Turns.{ForwardView, Stage, TurnDoes, stage_of, Asks}}
use Rattle.zc_forward.proofs.{Forwards.{if-none, kept-forwards}, Scrubs.{none-told}}
use Rattle.zc_forward.proofs.forward.Forward.poll_turn.Goals as goal

pub go_on-requires-clause-stands : goal.go_on-requires-clause-stands
go_on-requires-clause-stands g c =
    let (first, losses, before) = c.requires.stands in
    let inside = c.self.inside in
    let v : AppView = g.F.AppFace.seen inside.stream.face in
    let on : ForwardStands first losses (outbox_of inside.work) inside.stream.desk (g.C.Carrier.tags inside.carrier) (g.C.Carrier.got inside.carrier)
    (g.C.Carrier.counts inside.carrier) v =
    subst (λ (s : ForwardView g.row.F.Denot g.row.C.Denot). ForwardStands first losses s.work s.desk (g.C.Carrier.tags s.carrier) (g.C.Carrier.got s.carrier)
    (g.C.Carrier.counts s.carrier) (g.F.AppFace.seen s.face)) (sym c.self.view_is) before in (
      first,
      losses,
      g.C.Carrier.tags inside.carrier,
      c.poll_ask-told.ensures.asked.took,
      kept-forwards first (g.C.Carrier.got inside.carrier) (g.C.Carrier.got c.poll_ask-told.new.carrier) losses (g.C.Carrier.counts inside.carrier)
          (g.C.Carrier.counts c.poll_ask-told.new.carrier) (outbox_of inside.work) inside.stream.desk (g.C.Carrier.tags inside.carrier) v on
          c.poll_ask-told.ensures.asked.only.got c.poll_ask-told.ensures.asked.only.counts,
    )

pub returns-clause-makes : goal.returns-clause-makes
returns-clause-makes g c = record {
  gives = λ first losses before.
      let inside = c.self.inside in
      let v : AppView = g.F.AppFace.seen inside.stream.face in
      let on : ForwardStands first losses (outbox_of inside.work) inside.stream.desk (g.C.Carrier.tags inside.carrier) (g.C.Carrier.got inside.carrier)
      (g.C.Carrier.counts inside.carrier) v =
      subst (λ (s : ForwardView g.row.F.Denot g.row.C.Denot). ForwardStands first losses s.work s.desk (g.C.Carrier.tags s.carrier) (g.C.Carrier.got s.carrier)
      (g.C.Carrier.counts s.carrier) (g.F.AppFace.seen s.face)) (sym c.self.view_is) before in
      c.go_on.ensures.gives first losses (g.C.Carrier.tags inside.carrier) c.poll_ask-told.ensures.asked.took
      (kept-forwards first (g.C.Carrier.got inside.carrier) (g.C.Carrier.got c.poll_ask-told.new.carrier) losses (g.C.Carrier.counts inside.carrier)
      (g.C.Carrier.counts c.poll_ask-told.new.carrier) (outbox_of inside.work) inside.stream.desk (g.C.Carrier.tags inside.carrier) v on
      c.poll_ask-told.ensures.asked.only.got c.poll_ask-told.ensures.asked.only.counts);
  does =
      let inside = c.self.inside in
      let now : Stage = stage_of (outbox_of c.go_on.new.work) c.go_on.new.stream.desk (g.C.Carrier.tags c.go_on.new.carrier)
      (g.C.Carrier.pace c.go_on.new.carrier) (g.F.AppFace.seen c.go_on.new.stream.face) in
      subst (λ (s : ForwardView g.row.F.Denot g.row.C.Denot).
      TurnDoes (stage_of s.work s.desk (g.C.Carrier.tags s.carrier) (g.C.Carrier.pace s.carrier) (g.F.AppFace.seen s.face)) now c.go_on.result) c.self.view_is
      (c.go_on.ensures.does (g.C.Carrier.tags inside.carrier) (g.C.Carrier.pace inside.carrier) c.poll_ask-told.ensures.asked.took
      (if-none c.poll_ask-told.result _ c.poll_ask-told.ensures.asked.looked));
  scrubs =
      let (first, losses, before) = c.requires.stands in
      let inside = c.self.inside in
      let sent : g.C.Carrier.tags inside.carrier ≡ tags_of (outbox_of inside.work).out =
      subst (λ (s : ForwardView g.row.F.Denot g.row.C.Denot). g.C.Carrier.tags s.carrier ≡ tags_of s.work.out) (sym c.self.view_is) before.sent in
      subst (λ (s : ForwardView g.row.F.Denot g.row.C.Denot). s.work.tally.stopped ≢ stop.No → s.work.tally.due ≡ None → s.work.out ≡ []
      → ScrubsIfQuiet (g.F.AppFace.seen s.face) (g.F.AppFace.seen c.go_on.new.stream.face)) c.self.view_is
      (λ not due out. c.go_on.ensures.scrubs
      (none-told (g.C.Carrier.tags inside.carrier) (g.C.Carrier.tags c.poll_ask-told.new.carrier) c.poll_ask-told.result c.poll_ask-told.ensures.asked.took (sent ∙ ap tags_of out))
      not due out);
  told = search rules;
}

pub returns-clause-asks : goal.returns-clause-asks
returns-clause-asks g c =
    let inside = c.self.inside in
    let now : Stage = stage_of (outbox_of c.go_on.new.work) c.go_on.new.stream.desk (g.C.Carrier.tags c.go_on.new.carrier)
    (g.C.Carrier.pace c.go_on.new.carrier) (g.F.AppFace.seen c.go_on.new.stream.face) in
    subst (λ (s : ForwardView g.row.F.Denot g.row.C.Denot).
    Asks g.C.Carrier.answers g.C.Carrier.tags g.C.Carrier.pace
    (stage_of s.work s.desk (g.C.Carrier.tags s.carrier) (g.C.Carrier.pace s.carrier) (g.F.AppFace.seen s.face)) now s.carrier c.go_on.new.carrier)
    c.self.view_is
    (record {
      asked = c.poll_ask-told.new.carrier;
      told = c.poll_ask-told.result;
      by = c.poll_ask-told.ensures.by;
      took = c.poll_ask-told.ensures.asked.took;
      pace = c.go_on.ensures.pace;
      goes = subst (λ (k : Pace). PaceGoes (g.C.Carrier.pace inside.carrier) k) (sym c.go_on.ensures.pace) c.poll_ask-told.ensures.asked.only.pace;
      rest = c.go_on.ensures.rest (g.C.Carrier.tags inside.carrier) (g.C.Carrier.pace inside.carrier) c.poll_ask-told.ensures.asked.took;
    })
