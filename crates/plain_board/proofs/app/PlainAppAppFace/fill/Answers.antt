-- No event tells of it.
use Rattle.std.proofs.Common.{refl, []}
use Rattle.board_face.specs.BoardSteps.{fills}
use Rattle.plain_board.proofs.Logging.{app-told}
use Rattle.plain_board.proofs.app.PlainAppAppFace.fill.Goals as goal

pub invariant_of-self : goal.invariant_of-self
invariant_of-self c =
    let old = c.self.inside.board.value.contents in
    let new = c.fill.new.self in
    let a = c.self.inside.app in
    let said = rw c.deref_mut.ensures.value at c.fill.ensures in
    let out = rw (← c.self.view_is) at c.requires.out in
    rw c.deref_mut.ensures.value
    (app-told (fills c.args.own.now c.args.bytes.now) old new a _ c.self.invariant out c.requires.few said.only said.view [] refl tt)
