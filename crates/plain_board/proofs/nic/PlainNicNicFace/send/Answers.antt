-- A note that was sent is logged.
use Rattle.std.proofs.Common.{refl, ◌∷◌, []}
use Rattle.board_face.specs.BoardSteps.{sends}
use Rattle.plain_board.proofs.{Logging.{sides-sound, card-told}, AppFrames.{here-of}, Card.{within-setting}}
use Rattle.plain_board.proofs.nic.PlainNicNicFace.send.Goals as goal

pub invariant_of-self-2 : goal.invariant_of-self-2
invariant_of-self-2 c =
    let old = c.self.inside.board.value.contents in
    let before = c.self.invariant.sound in
    let here = here-of old c.args.app before (within-setting _ _ before (rw (← c.self.view_is) at c.requires.app)) in
    let said = rw c.deref_mut.ensures.value at c.in_ok-send.ensures in
    let out = rw (← c.self.view_is, ← c.requires.place) at c.requires.out in
    rw (c.push.ensures.log, c.deref_mut-2.ensures.value, c.deref_mut.ensures.value)
    (card-told (sends c.args.app c.args.note) old c.send.new.self _ c.self.invariant ((sides-sound old before).fit, here, c.requires.fields.split, out) tt said.view said.only
    (_ ∷ []) refl (c.push.ensures.small, tt))
