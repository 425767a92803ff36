-- No event tells of it.
use Rattle.std.proofs.Common.{refl, []}
use Rattle.board_face.specs.BoardSteps.{reads}
use Rattle.plain_board.proofs.Logging.{app-told}
use Rattle.plain_board.proofs.app.PlainAppAppFace.read.Goals as goal

pub invariant_of-self : goal.invariant_of-self
invariant_of-self c =
    let old = c.self.inside.board.value.contents in
    let new = c.read.new.self in
    let a = c.self.inside.app in
    let said = rw c.deref_mut.ensures.value at c.read.ensures in
    rw c.deref_mut.ensures.value
    (app-told (reads c.args.loan.now c.args.from c.read.new.into) old new a _ c.self.invariant tt tt said.only said.view [] refl tt)
