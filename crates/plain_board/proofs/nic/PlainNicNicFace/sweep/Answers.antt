-- No event tells of it.
use Rattle.std.proofs.Common.{refl, []}
use Rattle.board_face.specs.{BoardSteps.{sweeps}, NicEvents.{swept}}
use Rattle.plain_board.proofs.Logging.{nic-by, card-told}
use Rattle.plain_board.proofs.nic.PlainNicNicFace.sweep.Goals as goal

pub invariant_of-self : goal.invariant_of-self
invariant_of-self c =
    let old = c.self.inside.board.value.contents in
    let new = c.sweep-count.new.self in
    let before = c.self.invariant.sound in
    let said = rw c.deref_mut.ensures.value at c.sweep-count.ensures in
    let v = swept old.nic.view c.args.word said.view.found in
    rw c.deref_mut.ensures.value
    (card-told (sweeps c.args.word said.view.found) old new _ c.self.invariant tt tt (nic-by old new v before said.only.sound said.view.event refl) said.only [] refl tt)
