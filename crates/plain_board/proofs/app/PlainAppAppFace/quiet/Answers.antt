-- No event tells of it.
use Rattle.std.proofs.Common.{refl, []}
use Rattle.board_face.specs.{BoardSteps.{falls_quiet, sees}, declared.views.app.AppLook.TheVariants.{NotQuiet}}
use Rattle.plain_board.proofs.Logging.{app-told, by-answer}
use Rattle.plain_board.proofs.app.PlainAppAppFace.quiet.Goals as goal

pub invariant_of-self : goal.invariant_of-self
invariant_of-self c =
    let old = c.self.inside.board.value.contents in
    let new = c.quiet.new.self in
    let a = c.self.inside.app in
    let said = rw c.deref_mut.ensures.value at c.quiet.ensures in
    rw c.deref_mut.ensures.value
    (by-answer c.quiet.result said.view
    (λ done. app-told falls_quiet old new a _ c.self.invariant tt tt said.only done [] refl tt)
    (λ done. app-told (sees NotQuiet) old new a _ c.self.invariant tt tt said.only done.event [] refl tt))
