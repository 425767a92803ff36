use Rattle.std.proofs.Common.{◌≡◌, ◌<◌, [], length, get_or, ap, arith, length-drop, subst}
use Rattle.board_face.specs.Relay.{dealt_entries}
use Rattle.ref_words.specs.Rings.{slot_of}
use Rattle.ref_words.proofs.laws.users.in_hand_is_in_use.Goals as goal

pub returns : goal.returns
returns c = λ setting words nic apps inhand app rule is here.
    let front = (rule.refs.sides.hand inhand is).first app here in
    let more : length (dealt_entries app.view.app nic) < length app.view.written = omega (
      arith,
      ap length front.is,
      length-drop (length (dealt_entries app.view.app nic)) app.view.written,
    ) in
    subst (λ a. get_or (slot_of setting.places (get_or words.refills a []) (length (dealt_entries a nic))) 0 0 ≡ 1) here.number
    (ap (λ slot. get_or slot 0 0) ((rule.refs.rings inhand.app app here).refills.ring.full (length (dealt_entries app.view.app nic)) front.first
    (omega arith) more))
