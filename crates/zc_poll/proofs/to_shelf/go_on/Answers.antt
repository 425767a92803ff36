use Rattle.std.proofs.Common.{◌≡◌, ◌∙◌, None, true}
use Rattle.zc_poll.{specs.PourTurns.{pour_stage}, proofs.Scrubbing.{scrubs-then, step-does}}
use Rattle.zc_poll.proofs.to_shelf.go_on.Goals as goal

pub returns-clause-does : goal.returns-clause-does
returns-clause-does g c =
    step-does c.args.stream.now.desk (g.F.AppFace.seen c.args.stream.now.face)
    (pour_stage c.take_step.new.work.due c.take_step.new.stream.desk (g.F.AppFace.seen c.take_step.new.stream.face)) c.take_step.result
    (record {
      stage = pour_stage None c.scrub_stopped.new.stream.desk (g.F.AppFace.seen c.scrub_stopped.new.stream.face);
      first = c.scrub_stopped.ensures.first None;
      does = c.take_step.ensures.does;
    })

pub returns-clause-scrubs : goal.returns-clause-scrubs
returns-clause-scrubs g c = λ not.
    let (first, losses, before) = c.requires.stands in
    let stopped : c.scrub_stopped.new.stream.desk.stopped ≡ true = c.scrub_stopped.ensures.desk.0 ∙ (before.over not).0 in
    scrubs-then (g.F.AppFace.seen c.args.stream.now.face) (g.F.AppFace.seen c.scrub_stopped.new.stream.face) (g.F.AppFace.seen c.take_step.new.stream.face)
    (c.scrub_stopped.ensures.scrubs not) (c.take_step.ensures.only stopped)
