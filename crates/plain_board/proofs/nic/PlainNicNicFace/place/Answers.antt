-- It is logged with the count that its buffer has then.
use Rattle.std.proofs.Common.{refl, ◌∷◌, []}
use Rattle.board_face.specs.BoardSteps.{places}
use Rattle.plain_board.proofs.Logging.{card-told}
use Rattle.plain_board.proofs.nic.PlainNicNicFace.place.Goals as goal

pub invariant_of-self : goal.invariant_of-self
invariant_of-self c =
    let old = c.self.inside.board.value.contents in
    let said = rw c.deref_mut.ensures.value at c.place-piece.ensures in
    let out = rw (← c.self.view_is) at c.requires.out in
    rw (c.push.ensures.log, c.deref_mut-2.ensures.value, c.deref_mut.ensures.value)
    (card-told (places c.args.own.now c.args.bytes.now) old c.place-piece.new.self _ c.self.invariant out (c.requires.some, c.requires.fits) said.view said.only
    (_ ∷ []) (rw (c.pool_count-pool.ensures, c.deref.ensures, c.place-place.ensures, c.place-piece.ensures.piece) refl) (c.push.ensures.small, tt))

pub returns-clause-log : goal.returns-clause-log
returns-clause-log c =
    rw (← c.self.view_is, c.push.ensures.log, c.deref_mut-2.ensures.value, c.deref_mut.ensures.value)
    (rw (c.pool_count-pool.ensures, c.deref.ensures, c.place-place.ensures, c.place-piece.ensures.piece) refl)
