-- No event tells of it.
use Rattle.std.proofs.Common.{refl, []}
use Rattle.board_face.specs.BoardSteps.{ends}
use Rattle.plain_board.proofs.Logging.{card-told}
use Rattle.plain_board.proofs.nic.PlainNicNicFace.end.Goals as goal

pub invariant_of-self : goal.invariant_of-self
invariant_of-self c =
    let old = c.self.inside.board.value.contents in
    let said = rw c.deref_mut.ensures.value at c.end.ensures in
    rw c.deref_mut.ensures.value (card-told ends old c.end.new.self _ c.self.invariant tt tt said.view said.only [] refl tt)
