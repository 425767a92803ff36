-- It is logged with the count that its buffer has then.
use Rattle.std.proofs.Common.{refl, ◌∷◌, []}
use Rattle.board_face.specs.{NicEvents.{took}, BoardSteps.{takes}}
use Rattle.plain_board.proofs.Logging.{nic-by, card-told}
use Rattle.plain_board.proofs.nic.PlainNicNicFace.take.Goals as goal

pub invariant_of-self-2 : goal.invariant_of-self-2
invariant_of-self-2 c =
    let old = c.self.inside.board.value.contents in
    let new = c.take.new.self in
    let b = c.in_ok-own.own.buffer in
    let before = c.self.invariant.sound in
    let said = rw c.deref_mut.ensures.value at c.in_ok-own.ensures in
    rw (c.push.ensures.log, c.deref_mut-2.ensures.value, c.deref_mut.ensures.value)
    (card-told (takes b) old new _ c.self.invariant tt (said.view.of_pool, said.unheld)
    (nic-by old new (took old.nic.view b) before said.only.sound said.view.event refl) said.only
    (_ ∷ []) (rw (c.pool_count-pool.ensures, c.deref.ensures, c.buffer-buffer.ensures) refl) (c.push.ensures.small, tt))

pub returns-clause-log : goal.returns-clause-log
returns-clause-log c =
    rw (← c.self.view_is, c.push.ensures.log, c.deref_mut-2.ensures.value, c.deref_mut.ensures.value)
    (rw (c.pool_count-pool.ensures, c.deref.ensures, c.buffer-buffer.ensures) refl)
