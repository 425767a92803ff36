-- It is logged with the counts that its buffer has then.
use Rattle.std.proofs.Common.{refl, ◌∷◌, []}
use Rattle.board_face.specs.BoardSteps.{lends_own}
use Rattle.plain_board.proofs.Logging.{app-told}
use Rattle.plain_board.proofs.app.PlainAppAppFace.lend_own.Goals as goal

pub invariant_of-self : goal.invariant_of-self
invariant_of-self c =
    let old = c.self.inside.board.value.contents in
    let new = c.lend_own-loan.new.self in
    let a = c.self.inside.app in
    let said = rw c.deref_mut.ensures.value at c.lend_own-loan.ensures in
    let asked = rw (← c.self.view_is) at c.requires in
    rw (c.push.ensures.log, c.deref_mut-2.ensures.value, c.deref_mut.ensures.value)
    (app-told (lends_own c.args.own) old new a _ c.self.invariant asked.out asked.filled said.only said.view (_ ∷ []) (rw (c.pool_count-pool.ensures, c.deref.ensures, c.user_count-user.ensures, c.deref-2.ensures, c.place-place.ensures, rw c.deref_mut.ensures.value at c.lend_own-loan.ensures.place) refl) (c.push.ensures.small, tt))

pub returns-clause-log : goal.returns-clause-log
returns-clause-log c =
    rw (← c.self.view_is, c.push.ensures.log, c.deref_mut-2.ensures.value, c.deref_mut.ensures.value) (rw (c.pool_count-pool.ensures, c.deref.ensures, c.user_count-user.ensures, c.deref-2.ensures, c.place-place.ensures, rw c.deref_mut.ensures.value at c.lend_own-loan.ensures.place) refl)
