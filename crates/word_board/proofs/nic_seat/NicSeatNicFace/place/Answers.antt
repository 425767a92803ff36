-- The buffer's next bytes count as used, and it is of the pool as before.
use Rattle.std.proofs.Common.{sym, subst}
use Rattle.board_face.specs.NicCalls.{HasOwn}
use Rattle.word_board.{specs.Board.{TheNic}, proofs.CardKeeps.{NicKeeps-placed}}
use Rattle.word_board.proofs.nic_seat.NicSeatNicFace.place.Goals as goal

pub invariant_of-self : goal.invariant_of-self
invariant_of-self c =
    let me = c.self.inside in
    let own = c.filling_of-filling.result in
    let out : HasOwn me.card.side.view own = subst (HasOwn me.card.side.view) (sym c.filling_of-filling.ensures)
    (subst (λ (s : TheNic). HasOwn s.side.view c.args.own.now) (sym c.self.view_is) c.requires.out) in
    rw c.place_text.ensures (
      c.self.invariant.0,
      NicKeeps-placed me.card.board.setting me.card.side me.hand.cache.items me.hand.notes me.hand.entries c.self.invariant.1 own c.args.bytes.now out,
      c.self.invariant.2,
    )
