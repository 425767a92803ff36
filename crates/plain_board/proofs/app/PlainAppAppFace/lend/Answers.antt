-- It is logged with the counts that its buffer has then.
use Rattle.std.proofs.Common.{refl, ◌∷◌, []}
use Rattle.board_face.specs.BoardSteps.{lends}
use Rattle.plain_board.proofs.Logging.{app-told}
use Rattle.plain_board.proofs.app.PlainAppAppFace.lend.Goals as goal

pub invariant_of-self : goal.invariant_of-self
invariant_of-self c =
    let old = c.self.inside.board.value.contents in
    let new = c.lend-loan.new.self in
    let a = c.self.inside.app in
    let said = rw c.deref_mut.ensures.value at c.lend-loan.ensures in
    let out = rw (← c.self.view_is) at c.requires.out in
    rw (c.push.ensures.log, c.deref_mut-2.ensures.value, c.deref_mut.ensures.value)
    (app-told (lends c.args.held) old new a _ c.self.invariant out tt said.only said.view (_ ∷ []) (rw (c.pool_count-pool.ensures, c.deref.ensures, c.user_count-user.ensures, c.deref-2.ensures, c.place-place.ensures, c.lend-loan.ensures.place) refl) (c.push.ensures.small, tt))

pub returns-clause-log : goal.returns-clause-log
returns-clause-log c =
    rw (← c.self.view_is, c.push.ensures.log, c.deref_mut-2.ensures.value, c.deref_mut.ensures.value) (rw (c.pool_count-pool.ensures, c.deref.ensures, c.user_count-user.ensures, c.deref-2.ensures, c.place-place.ensures, c.lend-loan.ensures.place) refl)
