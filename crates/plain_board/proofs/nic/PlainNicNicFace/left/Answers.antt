-- No event tells of it.
use Rattle.std.proofs.Common.{refl, []}
use Rattle.board_face.specs.{BoardSteps.{looks, sees_leave}, declared.views.nic.NicLook.TheVariants.{NotLeft}}
use Rattle.plain_board.proofs.Logging.{by-answer, card-told}
use Rattle.plain_board.proofs.nic.PlainNicNicFace.left.Goals as goal

pub invariant_of-self : goal.invariant_of-self
invariant_of-self c =
    let old = c.self.inside.board.value.contents in
    let new = c.left.new.self in
    let said = rw c.deref_mut.ensures.value at c.left.ensures in
    rw c.deref_mut.ensures.value
    (by-answer c.left.result said.view
    (λ done. card-told (sees_leave c.args.app) old new _ c.self.invariant tt tt done said.only [] refl tt)
    (λ done. card-told (looks (NotLeft c.args.app)) old new _ c.self.invariant tt tt done said.only [] refl tt))
