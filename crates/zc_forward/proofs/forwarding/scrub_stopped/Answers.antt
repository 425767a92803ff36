use Rattle.std.proofs.Common.{rules, ◌∙◌, None, Option, refl, sym, ap, subst, inr}
use Rattle.zr_kinds.specs.declared.place.Place.{Place}
use Rattle.board_face.specs.declared.views.app.AppView.{AppView}
use Rattle.zc_poll.{specs.{Standing.{Desk}, Steps.{ScrubsOrWaits}, Pouring.{OnlyDue}}, proofs.Scrubbing.{scrub-pours, scrubbed-desk, scrubbed-view, scrubs-quiet}}
use Rattle.flow_queues.specs.TallyOf.{tally_state_of}
use Rattle.zc_forward.specs.{OutboxOf.{outbox_of}, Sending.{tags_of}, Forwarding.{ForwardStands}}
use Rattle.zc_poll.specs.Stops.{without_loan}
use Rattle.zc_forward.proofs.{Ends.{ends-pours, may-give-up, waits-forwards}, Scrubs.{aside-app, none-out, quiet-aside}}
use Rattle.zc_forward.proofs.forwarding.scrub_stopped.Goals as goal

pub abandon_kept-requires-clause-out : goal.abandon_kept-requires-clause-out
abandon_kept-requires-clause-out g c =
    let (first, got, losses, now, tags, before) = c.requires.stands in
    may-give-up (outbox_of c.args.work.now) (g.F.AppFace.seen c.args.stream.now.face) before.loans c.args.work.now.uncarried refl

pub scrub-requires : goal.scrub-requires
scrub-requires g c =
    let (first, got, losses, now, tags, before) = c.requires.stands in
    let gone = c.abandon_kept.ensures in
    let out = none-out c.args.work.now.out.items (search rules) in
    let poured = ends-pours first got losses now (outbox_of c.args.work.now) c.args.stream.now.desk c.abandon_kept.new.self.desk tags
    (g.F.AppFace.seen c.args.stream.now.face) (g.F.AppFace.seen c.abandon_kept.new.self.face) before out c.requires.due gone.stays.stands gone.stays.desk
    c.args.work.now.uncarried refl gone.view in
    record {
      still = (
        gone.stays.stands,
        ap (λ (d : Desk). d.stopped) gone.stays.desk ∙ before.over (search rules),
        subst (λ (d : Option Place). OnlyDue d (g.F.AppFace.seen c.abandon_kept.new.self.face).loans) c.requires.due poured.due,
      );
    }

pub returns-clause-gives : goal.returns-clause-gives
returns-clause-gives g c = λ first got losses now tags before.
    let gone = c.abandon_kept.ensures in
    let out = none-out c.args.work.now.out.items (search rules) in
    let mid : Desk = c.abandon_kept.new.self.desk in
    let later : Desk = c.scrub.new.self.desk in
    let between : AppView = g.F.AppFace.seen c.abandon_kept.new.self.face in
    let new : AppView = g.F.AppFace.seen c.scrub.new.self.face in
    let desk = scrubbed-desk mid later between new c.scrub.result c.scrub.ensures.scrubs in
    let poured = ends-pours first got losses now (outbox_of c.args.work.now) c.args.stream.now.desk mid tags (g.F.AppFace.seen c.args.stream.now.face) between
    before out c.requires.due gone.stays.stands gone.stays.desk c.args.work.now.uncarried refl gone.view in
    subst (λ (d : Option Place). ForwardStands first losses (outbox_of (record c.args.work.now { uncarried = d })) later tags got now new) (sym gone.none)
    (waits-forwards first got losses now (outbox_of (record c.args.work.now { uncarried = None })) later tags new
    (scrub-pours first got losses now (tally_state_of c.args.work.now.tally) mid later between new poured
    (scrubbed-view mid later between new c.scrub.result c.scrub.ensures.scrubs) desk c.scrub.ensures.stands)
    out (before.sent ∙ ap tags_of out) refl c.requires.due
    (λ ended. before.pressed (sym (ap (λ (d : Desk). d.ended) gone.stays.desk) ∙ sym (ap (λ (d : Desk). d.ended) desk) ∙ ended)))

pub returns-clause-first : goal.returns-clause-first
returns-clause-first g c = λ tags pace.
    let (first, got, losses, now, were, before) = c.requires.stands in
    let gone = c.abandon_kept.ensures in
    let out = none-out c.args.work.now.out.items (search rules) in
    inr (record {
      stopped = before.over (search rules);
      out = out;
      work = ap (λ (d : Option Place). outbox_of (record c.args.work.now { uncarried = d })) gone.none;
      done = c.scrub.result;
      scrubs = subst (λ (d : Desk). ScrubsOrWaits d c.scrub.new.self.desk (without_loan c.args.work.now.uncarried (g.F.AppFace.seen c.args.stream.now.face))
          (g.F.AppFace.seen c.scrub.new.self.face) c.scrub.result) gone.stays.desk
          (subst (λ (v : AppView). ScrubsOrWaits c.abandon_kept.new.self.desk c.scrub.new.self.desk v (g.F.AppFace.seen c.scrub.new.self.face) c.scrub.result)
          gone.view c.scrub.ensures.scrubs);
      tags = refl;
      pace = refl;
    })

pub returns-clause-scrubs : goal.returns-clause-scrubs
returns-clause-scrubs g c = λ not out.
    quiet-aside c.args.work.now.uncarried (g.F.AppFace.seen c.args.stream.now.face) (g.F.AppFace.seen c.abandon_kept.new.self.face)
    (g.F.AppFace.seen c.scrub.new.self.face) c.abandon_kept.ensures.view
    (scrubs-quiet c.abandon_kept.new.self.desk c.scrub.new.self.desk (g.F.AppFace.seen c.abandon_kept.new.self.face)
    (g.F.AppFace.seen c.scrub.new.self.face) c.scrub.result c.scrub.ensures.scrubs)

pub returns-clause-desk : goal.returns-clause-desk
returns-clause-desk g c =
    let gone = c.abandon_kept.ensures in
    let desk = scrubbed-desk c.abandon_kept.new.self.desk c.scrub.new.self.desk (g.F.AppFace.seen c.abandon_kept.new.self.face)
    (g.F.AppFace.seen c.scrub.new.self.face) c.scrub.result c.scrub.ensures.scrubs in
    (ap (λ (d : Desk). d.stopped) desk ∙ ap (λ (d : Desk). d.stopped) gone.stays.desk, ap (λ (d : Desk). d.ended) desk ∙ ap (λ (d : Desk). d.ended) gone.stays.desk)

pub returns-clause-seat : goal.returns-clause-seat
returns-clause-seat g c = record {
  app = ap (λ (v : AppView). v.app) (scrubbed-view c.abandon_kept.new.self.desk c.scrub.new.self.desk
      (g.F.AppFace.seen c.abandon_kept.new.self.face) (g.F.AppFace.seen c.scrub.new.self.face) c.scrub.result c.scrub.ensures.scrubs)
      ∙ ap (λ (v : AppView). v.app) c.abandon_kept.ensures.view ∙ aside-app c.args.work.now.uncarried (g.F.AppFace.seen c.args.stream.now.face);
  board = c.scrub.ensures.beside ∙ c.abandon_kept.ensures.beside;
}
