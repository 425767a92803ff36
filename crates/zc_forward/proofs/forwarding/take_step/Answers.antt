use Rattle.std.proofs.Common.{◌≡◌, ap, inl, inr, ⊎_elim, sym, subst, ◌∙◌, ◌<◌, length, true}
use Rattle.zc_poll.proofs.Scrubbing.{scrubs-then}
use Rattle.zc_forward.{specs.{declared.outbox.Outbox.{Outbox as Kept}, OutboxOf.{outbox_of}, Sending.{most_out}, Turns.{CarriedItem, Stage, stage_of}}, proofs.Scrubs.{carried-first, step-does}}
use Rattle.zc_forward.proofs.forwarding.take_step.Goals as goal

pub scrub_stopped-requires-clause-stands : goal.scrub_stopped-requires-clause-stands
scrub_stopped-requires-clause-stands g c =
    let (first, losses, before) = c.requires.stands in
    (first, g.C.Carrier.got c.args.carrier.now, losses, g.C.Carrier.counts c.args.carrier.now, g.C.Carrier.tags c.args.carrier.now, before)

pub step_once-requires-clause-stands : goal.step_once-requires-clause-stands
step_once-requires-clause-stands g c =
    let (first, losses, before) = c.requires.stands in (
      first,
      losses,
      c.scrub_stopped.ensures.gives first (g.C.Carrier.got c.args.carrier.now) losses (g.C.Carrier.counts c.args.carrier.now)
          (g.C.Carrier.tags c.args.carrier.now) before,
    )

pub step_once-requires-clause-can : goal.step_once-requires-clause-can
step_once-requires-clause-can g c = record {
  more = c.scrub_stopped.ensures.desk.1 ∙ c.requires.can.more;
  due = ap (λ (k : Kept). (outbox_of k).tally.due) c.scrub_stopped.ensures.work ∙ c.requires.can.due;
  few = subst (λ out. length out < most_out) (sym (ap (λ (k : Kept). (outbox_of k).out) c.scrub_stopped.ensures.work)) c.requires.can.few;
}

pub returns-clause-gives : goal.returns-clause-gives
returns-clause-gives g c = λ first losses before.
    c.step_once.ensures.gives first losses
    (c.scrub_stopped.ensures.gives first (g.C.Carrier.got c.args.carrier.now) losses (g.C.Carrier.counts c.args.carrier.now)
    (g.C.Carrier.tags c.args.carrier.now) before)

pub returns-clause-does : goal.returns-clause-does
returns-clause-does g c = λ pace.
    let tags = g.C.Carrier.tags c.args.carrier.now in
    let was : Stage = stage_of (outbox_of c.args.work.now) c.args.stream.now.desk tags pace (g.F.AppFace.seen c.args.stream.now.face) in
    let mid : Stage = stage_of (outbox_of c.scrub_stopped.new.work) c.scrub_stopped.new.stream.desk tags pace
    (g.F.AppFace.seen c.scrub_stopped.new.stream.face) in
    let now : Stage = stage_of (outbox_of c.step_once.new.work) c.step_once.new.stream.desk (g.C.Carrier.tags c.step_once.new.carrier)
    (g.C.Carrier.pace c.step_once.new.carrier) (g.F.AppFace.seen c.step_once.new.stream.face) in
    step-does was now c.step_once.result c.requires.can.due
    (record { stage = mid; first = c.scrub_stopped.ensures.first tags pace; does = c.step_once.ensures.does pace })

pub returns-clause-rest : goal.returns-clause-rest
returns-clause-rest g c = λ pace.
    let tags = g.C.Carrier.tags c.args.carrier.now in
    let was : Stage = stage_of (outbox_of c.args.work.now) c.args.stream.now.desk tags pace (g.F.AppFace.seen c.args.stream.now.face) in
    let mid : Stage = stage_of (outbox_of c.scrub_stopped.new.work) c.scrub_stopped.new.stream.desk tags pace
    (g.F.AppFace.seen c.scrub_stopped.new.stream.face) in
    let now : Stage = stage_of (outbox_of c.step_once.new.work) c.step_once.new.stream.desk (g.C.Carrier.tags c.step_once.new.carrier)
    (g.C.Carrier.pace c.step_once.new.carrier) (g.F.AppFace.seen c.step_once.new.stream.face) in
    ⊎_elim (λ (same : c.step_once.new.carrier ≡ c.args.carrier.now). inl same)
    (λ (item : CarriedItem mid now). inr (carried-first was mid now (c.scrub_stopped.ensures.first tags pace) item)) (c.step_once.ensures.rest pace)

pub returns-clause-scrubs : goal.returns-clause-scrubs
returns-clause-scrubs g c = λ not out.
    let (first, losses, before) = c.requires.stands in
    let stopped : c.scrub_stopped.new.stream.desk.stopped ≡ true = c.scrub_stopped.ensures.desk.0 ∙ before.over not in
    scrubs-then (g.F.AppFace.seen c.args.stream.now.face) (g.F.AppFace.seen c.scrub_stopped.new.stream.face) (g.F.AppFace.seen c.step_once.new.stream.face)
    (c.scrub_stopped.ensures.scrubs not out) (c.step_once.ensures.only stopped)
