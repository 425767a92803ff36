-- No event tells of it.
use Rattle.std.proofs.Common.{refl, []}
use Rattle.board_face.specs.BoardSteps.{leaves}
use Rattle.plain_board.proofs.Logging.{app-told}
use Rattle.plain_board.proofs.app.PlainAppAppFace.leave.Goals as goal

pub invariant_of-self : goal.invariant_of-self
invariant_of-self c =
    let old = c.self.inside.board.value.contents in
    let new = c.leave.new.self in
    let a = c.self.inside.app in
    let said = rw c.deref_mut.ensures.value at c.leave.ensures in
    rw c.deref_mut.ensures.value
    (app-told (leaves) old new a _ c.self.invariant tt tt said.only said.view [] refl tt)
