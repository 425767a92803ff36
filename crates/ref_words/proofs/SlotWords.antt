-- One word of a slot changes.
use Rattle.std.{proofs.Common.{◌≡◌, ℕ, ◌<◌, List, [], length, set, get_or, arith, ◌∙◌}, specs.Prelude.{◌≢◌, All}}
use Rattle.std.proofs.lemmas.List.{length-set, get_or-set_same, get_or-set_other, Elements.{All-set}}
use Rattle.board_face.specs.{NicCalls.{apps_of}, declared.views.parts.Setting.{Setting}}
use Rattle.word_rings.specs.Slots.{note_width, refill_width}
use Rattle.ref_words.{proofs.SlotSteps.{DifferInSlots}, specs.Words.{Words, WordsHaveSizes, AreSlots, with_word, with_slot_word, with_refill, with_note}}

module _ (rings : List (List (List ℕ))) (a s i n : ℕ) where
  -- the ring in which it changes, and the others
  pub ring-here : a < length rings → get_or (with_slot_word rings a s i n) a [] ≡ with_word (get_or rings a []) s i n
  ring-here there = get_or-set_same rings a (with_word (get_or rings a []) s i n) [] there

  pub ring-other : (k : ℕ) → k ≢ a → get_or (with_slot_word rings a s i n) k [] ≡ get_or rings k []
  ring-other k ne = get_or-set_other rings a k (with_word (get_or rings a []) s i n) [] ne

  pub rings-sized : (places width : ℕ) → a < length rings → s < places → All (AreSlots places width) rings
      → All (AreSlots places width) (with_slot_word rings a s i n)
  rings-sized places width there small all =
      let slots = get_or rings a [] in
      let slot = get_or slots s [] in
      let ring = all a [] there in
      All-set (AreSlots places width) rings a (with_word slots s i n) (record {
        many = length-set slots s (set slot i n) ∙ ring.many;
        wide = All-set (λ ws. length ws ≡ width) slots s (set slot i n)
            (length-set slot i n ∙ ring.wide s [] (omega (arith, small, ring.many))) ring.wide;
      }) all

module _ (setting : Setting) (w : Words) (sizes : WordsHaveSizes setting w) (a s i n : ℕ) (app : a < apps_of setting) (small : s < setting.places) where
  -- no other word changes
  pub differ-refill : DifferInSlots setting w (with_refill w a s i n)
  differ-refill =
      assumption (
        length-set w.refills a (with_word (get_or w.refills a []) s i n) ∙ sizes.refills,
        rings-sized w.refills a s i n setting.places refill_width (omega (arith, app, sizes.refills)) small sizes.refill_slots,
        sizes,
      )

  pub differ-note : DifferInSlots setting w (with_note w a s i n)
  differ-note =
      assumption (
        length-set w.notes a (with_word (get_or w.notes a []) s i n) ∙ sizes.notes,
        rings-sized w.notes a s i n setting.places note_width (omega (arith, app, sizes.notes)) small sizes.note_slots,
        sizes,
      )
