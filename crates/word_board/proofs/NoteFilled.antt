-- What the card's next note slot is, once the card looked at it and stored words there.
use Rattle.std.proofs.{Common.{◌≡◌, ℕ, suc, ◌+◌, ◌<◌, List, [], ◌∷◌, ◌++◌, length, take, drop, get_or, set, ap, ◌∙◌, arith, take-suc}, lemmas.Grind.{get_or_after_one}}
use Rattle.std.proofs.{Common.{◌≤◌, sym}, lemmas.List.{get_or-set_same, set-set, length-take-le, take-append-drop}}
use Rattle.board_face.specs.{declared.views.parts.Setting.{Setting}, Opened.{unseen}, NicEvents.{sent, sent_linear}}
use Rattle.board_face.specs.{SlotSteps.{seen_with, one_more, next_slot, at_note, side_note_stored, side_sent, side_sent_linear}, declared.views.parts.Slot.{Slot}}
use Rattle.board_face.specs.declared.views.nic.NicSide.{NicSide}
use Rattle.word_rings.specs.Slots.{field_words, payload_width, IsBlankFrom}
use Rattle.ref_words.specs.Rings.{left_in_note, note_so_far}
use Rattle.zr_kinds.specs.declared.place.Note.{Note}

-- one word more of those behind the flag
pub one-word : (body : List ℕ) (k : ℕ) → k < length (drop 1 body)
    → take (k + 1) (drop 1 body) ≡ take k (drop 1 body) ++ get_or body (1 + k) 0 ∷ []
one-word body k within =
    let e : k + 1 ≡ suc k = omega arith in
    ap (λ j. take j (drop 1 body)) e
    ∙ (take-suc (drop 1 body) k 0 within ∙ ap (λ n. take k (drop 1 body) ++ n ∷ []) (get_or_after_one body k 0))

module _ (nic : NicSide) (a : ℕ) (there : a < length nic.inside.note_slots) where
  pub slot-is : (slot : Slot) → next_slot (at_note nic a slot).inside.note_slots a ≡ slot
  slot-is slot = get_or-set_same nic.inside.note_slots a slot unseen there

  twice : (slot last : Slot) → set (set nic.inside.note_slots a slot) a last ≡ set nic.inside.note_slots a last
  twice slot last = set-set nic.inside.note_slots a slot last

  pub again : (slot last : Slot) → at_note (at_note nic a slot) a last ≡ at_note nic a last
  again slot last = ap (λ slots. record nic { inside = record nic.inside { note_slots = slots } }) (twice slot last)

  pub stored : (words : List ℕ) (n : ℕ) → side_note_stored (at_note nic a (seen_with words)) a n ≡ at_note nic a (seen_with (words ++ n ∷ []))
  stored words n =
      ap (λ slot. at_note (at_note nic a (seen_with words)) a (one_more slot n)) (slot-is (seen_with words))
      ∙ ap (λ slots. record nic { inside = record nic.inside { note_slots = slots } }) (twice (seen_with words) (seen_with (words ++ n ∷ [])))

  pub sent-so : (slot : Slot) (note : Note) → side_sent (at_note nic a slot) a note ≡ side_sent nic a note
  sent-so slot note =
      ap (λ slots. record { view = sent nic.view a note; inside = record nic.inside { note_slots = slots } }) (twice slot unseen)

  pub sent-linear-so : (slot : Slot) (note : Note) (bytes : List ℕ)
      → side_sent_linear (at_note nic a slot) a note bytes ≡ side_sent_linear nic a note bytes
  sent-linear-so slot note bytes =
      ap (λ slots. record { view = sent_linear nic.view a note bytes; inside = record nic.inside { note_slots = slots } }) (twice slot unseen)

  -- All of a note's words stand in the slot once those were stored behind which there are zeros, in the note and from before.
  pub filled-so : (setting : Setting) (body : List ℕ) (many m : ℕ) → length body ≡ field_words + payload_width → many ≡ field_words + m → m ≤ payload_width → IsBlankFrom m body
      → IsBlankFrom m (left_in_note setting nic a) → note_so_far setting (at_note nic a (seen_with (take many body))) a ≡ body
  filled-so setting body many m long is few blank left_blank =
      let left = left_in_note setting nic a in
      let stored = take many body in
      let stored_many : length stored ≡ field_words + m = length-take-le many body (omega arith) ∙ is in
      ap (λ (slot : Slot). slot.words ++ drop (length slot.words) left) (slot-is (seen_with stored))
      ∙ (ap (λ n. stored ++ drop n left) stored_many
      ∙ (ap (λ xs. stored ++ xs) (left_blank ∙ (sym blank ∙ ap (λ n. drop n body) (sym is))) ∙ take-append-drop many body))
