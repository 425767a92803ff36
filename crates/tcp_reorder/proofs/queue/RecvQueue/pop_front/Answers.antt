use Rattle.std.proofs.{Common.{◌≡◌, ◌+◌, None, sym, ap, ◌∙◌}, lemmas.Bool.{both_ways}}
use Rattle.tcp_reorder.{specs.{Queue.{next_of}, Pieces.{kept_piece_of, all_kept, queue_of}}, proofs.Sound.{IsAt, front_is_popped}}
use Rattle.tcp_reorder.proofs.queue.RecvQueue.pop_front.Given as given
use Rattle.tcp_reorder.proofs.queue.RecvQueue.pop_front.Goals as goal

-- the queue without its first piece: the first missing position stays
popped_at : (g : given.Over) (c : goal.After-self-1 g)
    → IsAt (queue_of c.self.inside.base (c.in_ok-position.position + c.in_ok-position.piece.len) None c.pop_least.new.pieces.entries)
    (next_of (queue_of c.self.inside.base c.self.inside.popped c.self.inside.first c.self.inside.pieces.entries))
popped_at g c =
    let queue = queue_of c.self.inside.base c.self.inside.popped c.self.inside.first c.self.inside.pieces.entries in
    let there = λ (missing : queue.popped ≡ next_of queue). both_ways _ (c.front.ensures.none.1 (rw (← c.self.view_is) missing)) c.if-is_none.ensures in
    front_is_popped queue (kept_piece_of (c.in_ok-position.position, c.in_ok-position.piece)) (all_kept c.pop_least.new.pieces.entries) c.self.invariant.0
    (ap all_kept c.in_ok-position.ensures.least) there

pub invariant_of-self-2 : goal.invariant_of-self-2
invariant_of-self-2 g c = rw (c.from.ensures, c.pop_least.ensures.others) ((popped_at g c).sound, c.self.invariant.1 ∙ (popped_at g c).next)

pub returns-clause-sound : goal.returns-clause-sound
returns-clause-sound g c = rw (c.from.ensures, c.pop_least.ensures.others) (popped_at g c).sound

pub returns-clause-next : goal.returns-clause-next
returns-clause-next g c = rw (← c.self.view_is, c.from.ensures, c.pop_least.ensures.others) (sym (popped_at g c).next)
