-- One more was moved.
use Rattle.std.proofs.Common.{arith, ◌∙◌}
use Rattle.replay_threads.proofs.Reversed.{moved-one}
use Rattle.replay_threads.proofs.moving.move_last.Goals as goal

pub loop-from-preserved : goal.loop-from-preserved
loop-from-preserved g c =
    let was = c.loop-from.invariant in
    record {
      keep = omega (arith, c.loop-from-test.true, c.in-Some.ensures.cases);
      room = omega (arith, was.room, was.keep, c.loop-from-test.true, c.in-Some.ensures.cases, c.push_reserved.ensures.len, c.push_reserved.ensures.capacity);
      many = omega (arith, was.many, c.in-Some.ensures.cases, c.push_reserved.ensures.len);
      moved = moved-one c.loop-from.from.items c.pop.new.self.items c.loop-from.to.items c.push_reserved.new.self.items _ c.in-Some.last
          c.in-Some.ensures.items c.push_reserved.ensures.items was.moved;
      capacity = c.pop.ensures.capacity ∙ was.capacity;
    }
