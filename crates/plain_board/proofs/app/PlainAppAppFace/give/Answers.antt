-- A loan that is given back is logged with the user count that stays, and a look at a full ring isn't.
use Rattle.std.proofs.Common.{refl, ◌∷◌, []}
use Rattle.board_face.specs.{BoardSteps.{gives, sees}, declared.views.app.AppLook.TheVariants.{RefillInUse}}
use Rattle.plain_board.proofs.Logging.{app-told, ended-returned}
use Rattle.plain_board.proofs.app.PlainAppAppFace.give.Goals as goal

pub invariant_of-self : goal.invariant_of-self
invariant_of-self c =
    let old = c.self.inside.board.value.contents in
    let said = rw c.deref_mut.ensures.value at c.in_err-give.ensures in
    rw c.deref_mut.ensures.value
    (app-told (sees RefillInUse) old c.give.new.self c.self.inside.app _ c.self.invariant tt tt said.only said.view.1.event [] refl tt)

pub invariant_of-self-2 : goal.invariant_of-self-2
invariant_of-self-2 c =
    let old = c.self.inside.board.value.contents in
    let new = c.give.new.self in
    let a = c.self.inside.app in
    let said = rw c.deref_mut.ensures.value at c.in_ok-give.ensures in
    let out = rw (← c.self.view_is) at c.requires.out in
    rw (c.push.ensures.log, c.deref_mut-2.ensures.value, c.deref_mut.ensures.value)
    (app-told (gives c.args.loan) old new a _ c.self.invariant (out, ended-returned old a _ c.self.invariant) tt said.only said.view
    (_ ∷ []) (rw (c.user_count-user.ensures, c.deref.ensures, c.place-place.ensures) refl) (c.push.ensures.small, tt))

pub returns-clause-log : goal.returns-clause-log
returns-clause-log c =
    rw (← c.self.view_is, c.push.ensures.log, c.deref_mut-2.ensures.value, c.deref_mut.ensures.value)
    (rw (c.user_count-user.ensures, c.deref.ensures, c.place-place.ensures) refl)
