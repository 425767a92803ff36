-- The buffers found enter the cache.
use Rattle.word_board.proofs.CardKeeps.{NicKeeps-swept}
use Rattle.word_board.proofs.nic_seat.NicSeatNicFace.sweep.Goals as goal

pub invariant_of-self : goal.invariant_of-self
invariant_of-self c =
    let me = c.self.inside in
    rw (c.sweep_word-found.ensures.event, c.cache_found.ensures.cache) (
      c.self.invariant.0,
      NicKeeps-swept me.card.board.setting me.card.side me.hand.cache.items me.hand.notes me.hand.entries c.self.invariant.1 c.args.word
          c.sweep_word-found.result c.sweep_word-found.ensures.swept,
      c.self.invariant.2,
    )
