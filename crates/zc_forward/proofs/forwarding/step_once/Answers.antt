use Rattle.std.proofs.Common.{◌≡◌, ◌∙◌, true, false, refl, sym}
use Rattle.zr_kinds.specs.declared.behaviour.Stopped.TheVariants as stop
use Rattle.zc_poll.proofs.PourTurns.{same-counts}
use Rattle.flow_queues.specs.TallyOf.{tally_state_of}
use Rattle.zc_forward.{specs.{declared.outbox.Outbox.{Outbox as Kept}, OutboxOf.{outbox_of}}, proofs.Forwards.{step-forwards, memory-forwards}}
use Rattle.zc_forward.proofs.forwarding.step_once.Goals as goal

pub returns-in-Waiting-clause-gives : goal.returns-in-Waiting-clause-gives
returns-in-Waiting-clause-gives g c =
    let steps = c.in-Waiting.ensures.stepped.steps in
    let k : Kept = record c.args.work.now { pressed = c.eq-work.result } in
    λ first losses before.
    step-forwards first (g.C.Carrier.got c.args.carrier.now) losses (g.C.Carrier.counts c.args.carrier.now) (outbox_of c.args.work.now) (outbox_of k)
    c.args.stream.now.desk c.step.new.self.desk (g.C.Carrier.tags c.args.carrier.now) (g.F.AppFace.seen c.args.stream.now.face)
    (g.F.AppFace.seen c.step.new.self.face) before steps.0 c.step.ensures.stepped.only c.step.ensures.stepped.stands (same-counts (tally_state_of c.args.work.now.tally)) refl refl refl
    (λ ended. (let e : true ≡ false = sym ended ∙ steps.3 in absurd (cc))) refl steps.2

pub returns-in-Memory-clause-gives : goal.returns-in-Memory-clause-gives
returns-in-Memory-clause-gives g c =
    let steps = c.in-Memory.ensures.stepped.steps in
    let k : Kept = record c.args.work.now { tally = record c.args.work.now.tally { stopped = stop.Memory }; pressed = false } in
    λ first losses before.
    memory-forwards first (g.C.Carrier.got c.args.carrier.now) losses (g.C.Carrier.counts c.args.carrier.now) (outbox_of c.args.work.now) (outbox_of k)
    c.args.stream.now.desk c.step.new.self.desk (g.C.Carrier.tags c.args.carrier.now) (g.F.AppFace.seen c.args.stream.now.face)
    (g.F.AppFace.seen c.step.new.self.face) before steps.0 c.step.ensures.stepped.only c.step.ensures.stepped.stands
    (record { counts = refl; written = refl; loans = refl; copied = refl; flows = refl; room = refl }) refl refl refl
    (λ ended. (let e : true ≡ false = sym ended ∙ steps.3 in absurd (cc))) refl steps.1 steps.2

pub returns-in-Ended-clause-gives : goal.returns-in-Ended-clause-gives
returns-in-Ended-clause-gives g c =
    let steps = c.in-Ended.ensures.stepped.steps in
    let k : Kept = record c.args.work.now { pressed = true } in
    λ first losses before.
    step-forwards first (g.C.Carrier.got c.args.carrier.now) losses (g.C.Carrier.counts c.args.carrier.now) (outbox_of c.args.work.now) (outbox_of k)
    c.args.stream.now.desk c.step.new.self.desk (g.C.Carrier.tags c.args.carrier.now) (g.F.AppFace.seen c.args.stream.now.face)
    (g.F.AppFace.seen c.step.new.self.face) before steps.0 c.step.ensures.stepped.only c.step.ensures.stepped.stands (same-counts (tally_state_of c.args.work.now.tally)) refl refl refl
    (λ _. refl) refl steps.1

pub returns-in-Item-clause-only : goal.returns-in-Item-clause-only
returns-in-Item-clause-only g c = λ stopped. (let clash : true ≡ false = sym stopped ∙ c.in-Item.ensures.stepped.steps.going.0 in absurd (cc))
