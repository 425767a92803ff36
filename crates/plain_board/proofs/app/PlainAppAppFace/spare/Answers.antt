-- A buffer that nobody had is logged with the count that it has then, and a look isn't.
use Rattle.std.proofs.Common.{refl, ◌∷◌, []}
use Rattle.board_face.specs.{BoardSteps.{sees, spares}, declared.views.app.AppLook.TheVariants.{NoSpare}}
use Rattle.plain_board.proofs.Logging.{app-told}
use Rattle.plain_board.proofs.app.PlainAppAppFace.spare.Goals as goal

pub invariant_of-self : goal.invariant_of-self
invariant_of-self c =
    let old = c.self.inside.board.value.contents in
    let said = rw c.deref_mut.ensures.value at c.in_err-own.ensures in
    rw c.deref_mut.ensures.value
    (app-told (sees NoSpare) old c.spare.new.self c.self.inside.app _ c.self.invariant tt tt said.only said.view.event [] refl tt)

pub invariant_of-self-2 : goal.invariant_of-self-2
invariant_of-self-2 c =
    let old = c.self.inside.board.value.contents in
    let said = rw c.deref_mut.ensures.value at c.in_ok-own.ensures in
    rw (c.push.ensures.log, c.deref_mut-2.ensures.value, c.deref_mut.ensures.value)
    (app-told (spares c.in_ok-own.own.buffer) old c.spare.new.self c.self.inside.app _ c.self.invariant tt (said.view.buffer, said.unheld) said.only said.view.event
    (_ ∷ []) (rw (c.pool_count-pool.ensures, c.deref.ensures, c.buffer-buffer.ensures) refl) (c.push.ensures.small, tt))

pub returns-clause-log : goal.returns-clause-log
returns-clause-log c =
    rw (← c.self.view_is, c.push.ensures.log, c.deref_mut-2.ensures.value, c.deref_mut.ensures.value)
    (rw (c.pool_count-pool.ensures, c.deref.ensures, c.buffer-buffer.ensures) refl)
