-- No event tells of it.
use Rattle.std.proofs.Common.{◌≡◌, refl, []}
use Rattle.board_face.specs.{AppCalls.{AppOnlySaw}, AppEvents.{pushed_raw}, BoardSteps.{pushes, sees}, declared.views.app.AppLook.TheVariants.{RefillInUse}}
use Rattle.plain_board.{specs.Stand.{side_of}, proofs.Logging.{app-told, by-result}}
use Rattle.plain_board.proofs.app.PlainAppAppFace.push_raw.Goals as goal

pub invariant_of-self : goal.invariant_of-self
invariant_of-self c =
    let old = c.self.inside.board.value.contents in
    let new = c.push_raw.new.self in
    let a = c.self.inside.app in
    let v = (side_of old a).view in
    let said = rw c.deref_mut.ensures.value at c.push_raw.ensures in
    rw c.deref_mut.ensures.value
    (by-result c.push_raw.result {A = λ done. (side_of new a).view ≡ pushed_raw v c.args.entry} {B = λ back. (back ≡ c.args.entry) × AppOnlySaw RefillInUse v (side_of new a).view} said.view
    (λ done is. app-told (pushes c.args.entry) old new a _ c.self.invariant tt tt said.only is [] refl tt)
    (λ back is. app-told (sees RefillInUse) old new a _ c.self.invariant tt tt said.only is.1.event [] refl tt))
