use Rattle.tcp_reorder.proofs.Sound.{new_is_at}
use Rattle.tcp_reorder.proofs.queue.RecvQueue.new.Goals as goal

pub invariant_of-result : goal.invariant_of-result
invariant_of-result g c = rw c.new.ensures.empty (let at = new_is_at c.args.base in (at.sound, at.next))
