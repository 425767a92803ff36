use Rattle.std.proofs.Common.{refl}
use Rattle.zr_kinds.specs.declared.behaviour.Stopped.TheVariants as stop
use Rattle.zc_poll.proofs.PourTurns.{step-pours, memory-pours, same-counts}
use Rattle.flow_queues.specs.TallyOf.{tally_state_of}
use Rattle.zc_poll.proofs.to_shelf.take_step.Goals as goal

pub returns-in-Waiting-clause-gives : goal.returns-in-Waiting-clause-gives
returns-in-Waiting-clause-gives g c =
    let steps = c.in-Waiting.ensures.stepped.steps in
    λ first losses before.
    step-pours first (g.T.Shelf.kept c.args.shelf.now) losses (g.T.Shelf.counts c.args.shelf.now) (tally_state_of c.args.work.now) (tally_state_of c.args.work.now) c.args.stream.now.desk
    c.step.new.self.desk (g.F.AppFace.seen c.args.stream.now.face) (g.F.AppFace.seen c.step.new.self.face) before steps.0 c.step.ensures.stepped.only
    c.step.ensures.stepped.stands (same-counts (tally_state_of c.args.work.now)) refl refl steps.2

pub returns-in-Memory-clause-gives : goal.returns-in-Memory-clause-gives
returns-in-Memory-clause-gives g c =
    let steps = c.in-Memory.ensures.stepped.steps in
    λ first losses before.
    memory-pours first (g.T.Shelf.kept c.args.shelf.now) losses (g.T.Shelf.counts c.args.shelf.now) (tally_state_of c.args.work.now)
    (record (tally_state_of c.args.work.now) { stopped = stop.Memory }) c.args.stream.now.desk
    c.step.new.self.desk (g.F.AppFace.seen c.args.stream.now.face) (g.F.AppFace.seen c.step.new.self.face) before steps.0 c.step.ensures.stepped.only
    c.step.ensures.stepped.stands (record { counts = refl; written = refl; loans = refl; copied = refl; flows = refl; room = refl }) refl refl c.requires.none steps.1 steps.2

pub returns-in-Ended-clause-gives : goal.returns-in-Ended-clause-gives
returns-in-Ended-clause-gives g c =
    let steps = c.in-Ended.ensures.stepped.steps in
    λ first losses before.
    step-pours first (g.T.Shelf.kept c.args.shelf.now) losses (g.T.Shelf.counts c.args.shelf.now) (tally_state_of c.args.work.now) (tally_state_of c.args.work.now) c.args.stream.now.desk
    c.step.new.self.desk (g.F.AppFace.seen c.args.stream.now.face) (g.F.AppFace.seen c.step.new.self.face) before steps.0 c.step.ensures.stepped.only
    c.step.ensures.stepped.stands (same-counts (tally_state_of c.args.work.now)) refl refl steps.1
