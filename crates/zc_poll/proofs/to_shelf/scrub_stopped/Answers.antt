use Rattle.std.proofs.Common.{rules, ap}
use Rattle.board_face.specs.declared.views.app.AppView.{AppView}
use Rattle.zc_poll.{specs.Standing.{Desk}, proofs.Scrubbing.{scrub-pours, scrubs-first, scrubbed-desk, scrubbed-view, scrubs-quiet}}
use Rattle.flow_queues.specs.TallyOf.{tally_state_of}
use Rattle.zc_poll.proofs.to_shelf.scrub_stopped.Goals as goal

pub scrub-requires : goal.scrub-requires
scrub-requires g c =
    let (first, kept, losses, now, before) = c.requires.stands in
    let over = before.over (search rules) in
    record { still = (before.stands, over.0, over.1) }

pub returns-clause-gives : goal.returns-clause-gives
returns-clause-gives g c = λ first kept losses now before.
    let was : Desk = c.args.stream.now.desk in
    let old : AppView = g.F.AppFace.seen c.args.stream.now.face in
    let new : AppView = g.F.AppFace.seen c.scrub.new.self.face in
    scrub-pours first kept losses now (tally_state_of c.args.work.now) was c.scrub.new.self.desk old new before
    (scrubbed-view was c.scrub.new.self.desk old new c.scrub.result c.scrub.ensures.scrubs)
    (scrubbed-desk was c.scrub.new.self.desk old new c.scrub.result c.scrub.ensures.scrubs) c.scrub.ensures.stands

pub returns-clause-first : goal.returns-clause-first
returns-clause-first g c =
    let (first, kept, losses, now, before) = c.requires.stands in
    λ due. scrubs-first due c.args.stream.now.desk c.scrub.new.self.desk (g.F.AppFace.seen c.args.stream.now.face) (g.F.AppFace.seen c.scrub.new.self.face)
    c.scrub.result (before.over (search rules)).0 c.scrub.ensures.scrubs

pub returns-clause-scrubs : goal.returns-clause-scrubs
returns-clause-scrubs g c = λ not.
    scrubs-quiet c.args.stream.now.desk c.scrub.new.self.desk (g.F.AppFace.seen c.args.stream.now.face) (g.F.AppFace.seen c.scrub.new.self.face) c.scrub.result
    c.scrub.ensures.scrubs

pub returns-clause-desk : goal.returns-clause-desk
returns-clause-desk g c =
    let desk = scrubbed-desk c.args.stream.now.desk c.scrub.new.self.desk (g.F.AppFace.seen c.args.stream.now.face) (g.F.AppFace.seen c.scrub.new.self.face)
    c.scrub.result c.scrub.ensures.scrubs in (ap (λ (d : Desk). d.stopped) desk, ap (λ (d : Desk). d.ended) desk)

pub returns-clause-same : goal.returns-clause-same
returns-clause-same g c = ap (λ (v : AppView). v.app)
    (scrubbed-view c.args.stream.now.desk c.scrub.new.self.desk (g.F.AppFace.seen c.args.stream.now.face) (g.F.AppFace.seen c.scrub.new.self.face) c.scrub.result
    c.scrub.ensures.scrubs)
