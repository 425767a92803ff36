use Rattle.flow_table.{specs.Plain.{byte_in, placed_shown}, proofs.Placing.{front_begins, front_goes_on}}
use Rattle.flow_table.proofs.plain.placed.PlainPlaced.front.Goals as goal

pub loop-position-init : goal.loop-position-init
loop-position-init c = front_begins (placed_shown c.args.self.now) c.new-front.result.items c.new-front.ensures.items

pub loop-position-preserved : goal.loop-position-preserved
loop-position-preserved c =
    front_goes_on (byte_in c.args.self.now.bytes.items) c.args.self.now.top c.loop-position.position c.loop-position.front.items _ _ c.in-Some.byte
    c.loop-position-test.true c.in-Some.ensures c.in_ok-push.ensures.items c.loop-position.invariant
