-- It is logged with the count that its buffer has then.
use Rattle.std.proofs.Common.{refl, ◌∷◌, []}
use Rattle.board_face.specs.BoardSteps.{shuts}
use Rattle.plain_board.proofs.Logging.{card-told}
use Rattle.plain_board.proofs.nic.PlainNicNicFace.shut.Goals as goal

pub invariant_of-self : goal.invariant_of-self
invariant_of-self c =
    let old = c.self.inside.board.value.contents in
    let said = rw c.deref_mut.ensures.value at c.shut.ensures in
    let out = rw (← c.self.view_is) at c.requires.out in
    rw (c.push.ensures.log, c.deref_mut-2.ensures.value, c.deref_mut.ensures.value)
    (card-told (shuts c.args.own _) old c.shut.new.self _ c.self.invariant out tt said.view said.only
    (_ ∷ []) (rw (c.pool_count-pool.ensures, c.deref.ensures, c.buffer-buffer.ensures) refl) (c.push.ensures.small, tt))

pub returns-clause-log : goal.returns-clause-log
returns-clause-log c =
    rw (← c.self.view_is, c.push.ensures.log, c.deref_mut-2.ensures.value, c.deref_mut.ensures.value)
    (rw (c.pool_count-pool.ensures, c.deref.ensures, c.buffer-buffer.ensures) refl)
