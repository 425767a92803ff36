-- No event tells of it.
use Rattle.std.proofs.Common.{refl, []}
use Rattle.board_face.specs.{BoardSteps.{settles, sees}, declared.views.app.AppLook.TheVariants.{RawOnItsWay}}
use Rattle.plain_board.proofs.Logging.{app-told, by-answer}
use Rattle.plain_board.proofs.app.PlainAppAppFace.settle.Goals as goal

pub invariant_of-self : goal.invariant_of-self
invariant_of-self c =
    let old = c.self.inside.board.value.contents in
    let new = c.settle.new.self in
    let a = c.self.inside.app in
    let said = rw c.deref_mut.ensures.value at c.settle.ensures in
    rw c.deref_mut.ensures.value
    (by-answer c.settle.result said.view
    (λ done. app-told settles old new a _ c.self.invariant tt tt said.only done [] refl tt)
    (λ done. app-told (sees RawOnItsWay) old new a _ c.self.invariant tt tt said.only done.event [] refl tt))
