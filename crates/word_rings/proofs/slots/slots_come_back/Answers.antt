use Rattle.std.proofs.{Common.{◌≡◌, ◌+◌, ℕ, length, drop, sym, ap, ◌∙◌, arith}, lemmas.List.{get_or-drop, length-drop}}
use Rattle.word_rings.{specs.Slots.{note_fields, payload_width, words_of, linear_of}, proofs.{Words.{words_back}, NoteSlots.{slot_back}}}
use Rattle.word_rings.proofs.slots.slots_come_back.Goals as goal

pub returns : goal.returns
returns c = λ w len small slot.
    let behind : length (drop note_fields w) ≡ payload_width = length-drop note_fields w ∙ (omega arith) in
    let back : words_of (length (drop note_fields w)) (linear_of w)
    ≡ drop note_fields w = words_back (drop note_fields w) (λ k. let at = get_or-drop note_fields w k 0 in omega (arith, small (note_fields + k))) in
    slot_back w len slot (ap (λ (n : ℕ). words_of n (linear_of w)) (sym behind) ∙ back)
