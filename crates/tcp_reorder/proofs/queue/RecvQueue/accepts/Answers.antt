use Rattle.std.proofs.Common.{◌^◌, ◌≤◌, arith}
use Rattle.tcp_reorder.{specs.{Queue.{next_of}, Pieces.{queue_of}}, proofs.Sound.{next_of-low}}
use Rattle.tcp_reorder.proofs.queue.RecvQueue.accepts.Goals as goal

pub overflow_add-result : goal.overflow_add-result
overflow_add-result g c =
    let queue = queue_of c.self.inside.base c.self.inside.popped c.self.inside.first c.self.inside.pieces.entries in
    let low : next_of queue ≤ 2 ^ 62 = next_of-low queue c.self.invariant.0 in
    omega arith
