-- No event tells of it.
use Rattle.std.proofs.Common.{refl, []}
use Rattle.board_face.specs.{BoardSteps.{looks, sends_linear}, declared.views.nic.NicLook.TheVariants.{NoteInUse}}
use Rattle.plain_board.proofs.{Logging.{sides-sound, by-answer, card-told}, AppFrames.{here-of}, Card.{within-setting}}
use Rattle.plain_board.proofs.nic.PlainNicNicFace.send_linear.Goals as goal

pub invariant_of-self : goal.invariant_of-self
invariant_of-self c =
    let old = c.self.inside.board.value.contents in
    let new = c.send_linear.new.self in
    let before = c.self.invariant.sound in
    let here = here-of old c.args.app before (within-setting _ _ before (rw (← c.self.view_is) at c.requires.app)) in
    let said = rw c.deref_mut.ensures.value at c.send_linear.ensures in
    rw c.deref_mut.ensures.value
    (by-answer c.send_linear.result said.view
    (λ done. card-told (sends_linear c.args.app c.args.note c.args.bytes.now) old new _ c.self.invariant ((sides-sound old before).fit, here, c.requires.fields.split) tt done said.only [] refl tt)
    (λ done. card-told (looks (NoteInUse c.args.app)) old new _ c.self.invariant tt tt done said.only [] refl tt))
