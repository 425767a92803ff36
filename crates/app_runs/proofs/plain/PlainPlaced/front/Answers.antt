use Rattle.app_runs.{specs.Plain.{placed_in}, proofs.{Placing.{front-begins, front-goes_on}}}
use Rattle.app_runs.proofs.plain.PlainPlaced.front.Goals as goal

pub loop-position-init : goal.loop-position-init
loop-position-init c = front-begins (placed_in c.args.self.now.marks.items c.args.self.now.top) c.new-front.result.items c.new-front.ensures.items

pub loop-position-preserved : goal.loop-position-preserved
loop-position-preserved c =
    let self = c.args.self.now in
    front-goes_on (placed_in self.marks.items self.top).at self.top c.loop-position.position c.loop-position.front.items _ _ c.in-Some.mark
    c.loop-position-test.true c.in-Some.ensures c.in_ok-push.ensures.items c.loop-position.invariant
