-- The look at a refill slot and the loads of its two words together leave the card with the entry in hand.
use Rattle.std.proofs.Common.{◌≡◌, ℕ, ◌<◌, true, List, [], ◌∷◌, ◌++◌, length, Some, set, get_or, ap, sym, ◌∙◌, arith}
use Rattle.std.proofs.lemmas.List.{get_or-set_same, set-set, length-set}
use Rattle.zr_kinds.specs.declared.ring.Rqe.{Rqe}
use Rattle.board_face.specs.{Opened.{unseen}, SlotSteps.{seen_with, one_more, next_slot, side_entry_looked, side_entry_loaded, side_in_hand}}
use Rattle.board_face.specs.declared.views.{parts.Slot.{Slot}, nic.{Judged.TheVariants.{Not}, NicSide.{NicSide}}}
use Rattle.word_rings.{specs.Slots.{entry_of_words}, proofs.NoteSlots.{pair_back}}
use Rattle.word_board.specs.Board.{side_entry_taken}

-- the last word is loaded, and the entry that the words tell of is in hand
abbrev pub with_last : NicSide → ℕ → ℕ → NicSide
with_last nic a n = side_in_hand nic a n (entry_of_words (1 ∷ (next_slot nic.inside.refill_slots a).words ++ n ∷ []))

module _ (nic : NicSide) (a off rest : ℕ) (there : a < length nic.inside.refill_slots) where
  abbrev looked : List Slot
  looked = set nic.inside.refill_slots a (seen_with [])

  abbrev loaded : List Slot
  loaded = set looked a (one_more (get_or looked a unseen) off)

  abbrev entry : Rqe
  entry = entry_of_words (1 ∷ off ∷ rest ∷ [])

  abbrev with_slots : List Slot → Rqe → NicSide
  with_slots slots e = record nic {
    inside = record nic.inside { refill_slots = slots; entry = Some (record { app = a; entry = e; judged = Not }) };
  }

  one-loaded : get_or loaded a unseen ≡ seen_with (off ∷ [])
  one-loaded =
      get_or-set_same looked a (one_more (get_or looked a unseen) off) unseen
      (omega (arith, there, length-set nic.inside.refill_slots a (seen_with [])))
      ∙ ap (λ slot. one_more slot off) (get_or-set_same nic.inside.refill_slots a (seen_with []) unseen there)

  last-slot : set loaded a (seen_with (off ∷ rest ∷ [])) ≡ set nic.inside.refill_slots a (seen_with (off ∷ rest ∷ []))
  last-slot =
      set-set looked a (one_more (get_or looked a unseen) off) (seen_with (off ∷ rest ∷ []))
      ∙ set-set nic.inside.refill_slots a (seen_with []) (seen_with (off ∷ rest ∷ []))

  pub takes : with_last (side_entry_loaded (side_entry_looked nic a true) a off) a rest ≡ side_entry_taken nic a (Some entry)
  takes =
      ap (λ slot. with_slots (set loaded a (one_more slot rest)) (entry_of_words (1 ∷ slot.words ++ rest ∷ []))) one-loaded
      ∙ (ap (λ slots. with_slots slots entry) last-slot
      ∙ ap (λ n. with_slots (set nic.inside.refill_slots a (seen_with (off ∷ n ∷ []))) entry) (sym (pair_back rest)))
