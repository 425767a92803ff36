use Rattle.std.proofs.Common.{◌≡◌, ◌^◌, ◌≤◌, max, ◌∷◌, ap, subst, arith}
use Rattle.tcp_reorder.{specs.{Queue.{Kept, next_of, end_of, AreApart, EndWithin}, Pieces.{kept_piece_of, all_kept, queue_of}}, proofs.Positions.{AreApart-lower}}
use Rattle.tcp_reorder.proofs.Sound.{next_of-low, apart_from_0, pulled_is_at}
use Rattle.tcp_reorder.proofs.queue.RecvQueue.pull.Goals as goal

pub first_free-self-inside-requires-clause-apart : goal.first_free-self-inside-requires-clause-apart
first_free-self-inside-requires-clause-apart g c =
    let queue = queue_of c.self.inside.base c.self.inside.popped c.self.inside.first c.self.inside.pieces.entries in
    let one : Kept _ = kept_piece_of (c.in_ok-position.position, c.in_ok-position.lowest) in
    let apart : AreApart 0 (one ∷ all_kept c.pop_least.new.pieces.entries) =
    subst (λ kept. AreApart 0 kept) (ap all_kept c.in_ok-position.ensures.least) (apart_from_0 queue c.self.invariant.0) in
    AreApart-lower (end_of one) 0 (all_kept c.pop_least.new.pieces.entries) (omega arith) apart.3

pub first_free-self-inside-requires-clause-low : goal.first_free-self-inside-requires-clause-low
first_free-self-inside-requires-clause-low g c =
    let queue = queue_of c.self.inside.base c.self.inside.popped c.self.inside.first c.self.inside.pieces.entries in
    let low : next_of queue ≤ 2 ^ 62 = next_of-low queue c.self.invariant.0 in
    let one : Kept _ = kept_piece_of (c.in_ok-position.position, c.in_ok-position.lowest) in
    let stream : EndWithin (2 ^ 62) (one ∷ all_kept c.pop_least.new.pieces.entries) =
    subst (λ kept. EndWithin (2 ^ 62) kept) (ap all_kept c.in_ok-position.ensures.least) c.self.invariant.0.in_stream in
    omega (arith, stream.0)

pub invariant_of-self-2 : goal.invariant_of-self-2
invariant_of-self-2 g c =
    let queue = queue_of c.self.inside.base c.self.inside.popped c.self.inside.first c.self.inside.pieces.entries in
    let one : Kept _ = kept_piece_of (c.in_ok-position.position, c.in_ok-position.lowest) in
    let from : c.max.result ≡ max (next_of queue) (end_of one) = omega arith in
    let at = pulled_is_at queue one (all_kept c.pop_least.new.pieces.entries) c.first_free-self-inside.result c.max.result c.self.invariant.0
    (ap all_kept c.in_ok-position.ensures.least) from
    c.first_free-self-inside.ensures.above c.first_free-self-inside.ensures.kept (c.first_free-self-inside.ensures.free (omega arith)) in
    rw (c.from.ensures, c.pop_least.ensures.others) (at.sound, at.next)
