-- The lanes have run, each at its place.
use Rattle.std.proofs.Common.{rules, ◌≡◌, subst}
use Rattle.board_race.{specs.Lanes.{AreAt, HaveRun}, proofs.LaneLists.{AreAt-run, SayLeft-run, written-whole}}
use Rattle.board_race.proofs.threads.run_threads.Goals as goal

pub all_back-requires-clause-lanes : goal.all_back-requires-clause-lanes
all_back-requires-clause-lanes g c =
    let whole : c.as_mut_slice.result.now ≡ c.in-Some.lanes.items = search rules in
    let ran : HaveRun c.in-Some.lanes.items c.run_all-ended.new.lanes = subst (λ l. HaveRun l c.run_all-ended.new.lanes) whole c.run_all-ended.ensures.lanes in
    let same = written-whole c.in-Some.lanes.len c.run_all-ended.new.lanes c.in-Some.lanes.items c.in-Some.lanes.ok.0 ran.many in
    let ready = rw c.in-Some.is at c.in_ok-lanes.ensures.ready in
    let here : c.run_all-ended.new.nic.board ≡ c.in_ok-board.board = search rules in
    let at : AreAt c.run_all-ended.new.nic.board c.in-Some.lanes.items = rw here ready.at in
    rw same (AreAt-run _ c.in-Some.lanes.items c.run_all-ended.new.lanes at ran)

pub all_back-requires-clause-left : goal.all_back-requires-clause-left
all_back-requires-clause-left g c =
    let whole : c.as_mut_slice.result.now ≡ c.in-Some.lanes.items = search rules in
    let ran : HaveRun c.in-Some.lanes.items c.run_all-ended.new.lanes = subst (λ l. HaveRun l c.run_all-ended.new.lanes) whole c.run_all-ended.ensures.lanes in
    let same = written-whole c.in-Some.lanes.len c.run_all-ended.new.lanes c.in-Some.lanes.items c.in-Some.lanes.ok.0 ran.many in
    rw same (SayLeft-run c.in-Some.lanes.items c.run_all-ended.new.lanes ran)
