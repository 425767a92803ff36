-- An application looks at its next slots, stores words of entries and loads words of notes.
use Rattle.std.{proofs.Common.{◌≡◌, ℕ, ◌+◌, ◌<◌, Bool, true, false, List, [], length, set, get_or, refl, sym, ◌∙◌, arith, mod-lt}, specs.Prelude.{◌==◌}}
use Rattle.std.proofs.lemmas.{Bool.{eqb-true}, List.Elements.{All-weaker}}
use Rattle.board_face.specs.{Sides.{IsApp}, SlotSteps.{side_refill_looked, side_refill_stored, side_slot_looked, side_slot_loaded}}
use Rattle.board_face.specs.declared.views.{parts.Setting.{Setting}, nic.NicSide.{NicSide}, app.AppSide.{AppSide}}
use Rattle.word_rings.specs.Slots.{note_width, refill_width}
use Rattle.ref_words.specs.{Words.{Words, slot_word, with_refill}, Rings.{IsFreeSlot, AreRings, writes_entry_at, takes_note_at}, Rule.{RefRule}}
use Rattle.ref_words.proofs.{RingSteps.{rings-others, rings-app}, SlotWords.{ring-here, ring-other, differ-refill}, SlotSteps.{no-word, DifferInSlots}}
use Rattle.ref_words.proofs.{AppLooks.{RefRule-app}, SideSteps.{is-app}}
use Rattle.ref_words.proofs.Ringing as ringing

module _ (setting : Setting) (words : Words) (nic : NicSide) (apps : List AppSide) (app : AppSide) (rule : RefRule setting words nic apps)
    (here : IsApp apps app.view.app app) where
  abbrev a : ℕ
  a = app.view.app

  rings : AreRings setting words nic app
  rings = rule.rings a app here

  abbrev slots : List (List ℕ)
  slots = get_or words.refills a []

  -- ---- its refill ring

  look-entry : (free : Bool) → (free ≡ true → slot_word words.refills a (writes_entry_at setting app) 0 ≡ 0)
      → RefRule setting words nic (set apps a (side_refill_looked app free))
  look-entry true flag =
      let r = rings.refills in
      RefRule-app setting words nic apps a app rule here (side_refill_looked app true) refl (rule.sides.returns a app here).settled
      (rule.sides.returns a app here).quiet (λ e. e) words (no-word setting words rule.sizes)
      (rings-others setting words nic apps a app (side_refill_looked app true) here
      (record {
        refills = record {
          ring = ringing.sees-free _ _ _ _ _ _ _ _ r.ring (flag refl);
          free_slots = r.free_slots;
          raw_slot = r.raw_slot;
          none_raw = r.none_raw;
        };
        notes = rings.notes;
        left = rings.left;
      })
      (λ k x is ne. rule.rings k x is))
  look-entry false flag =
      RefRule-app setting words nic apps a app rule here (side_refill_looked app false) refl (rule.sides.returns a app here).settled
      (rule.sides.returns a app here).quiet (λ e. e) words (no-word setting words rule.sizes)
      (rings-app setting words nic apps a app (side_refill_looked app false) here refl refl refl refl refl refl refl rule.rings)

  pub store-entry : (n : ℕ) → app.inside.refill_slot.seen ≡ true → 1 + length app.inside.refill_slot.words < refill_width
      → RefRule setting (with_refill words a (writes_entry_at setting app) (1 + length app.inside.refill_slot.words) n) nic
      (set apps a (side_refill_stored app n))
  store-entry n saw more =
      let r = rings.refills in
      let i = 1 + length app.inside.refill_slot.words in
      let s = writes_entry_at setting app in
      let there : a < length words.refills = let small = is-app rule.sides here in omega (arith, rule.sizes.refills) in
      let differ : DifferInSlots setting words (with_refill words a s i n) =
      differ-refill setting words rule.sizes a s i n (is-app rule.sides here) (mod-lt (length app.view.written) r.ring.some) in
      RefRule-app setting words nic apps a app rule here (side_refill_stored app n) refl (rule.sides.returns a app here).settled
      (rule.sides.returns a app here).quiet (λ e. e) (with_refill words a s i n) differ
      (rings-others setting (with_refill words a s i n) nic apps a app (side_refill_stored app n) here
      (record {
        refills = rw (ring-here words.refills a s i n there) (record {
          ring = ringing.stores _ _ _ _ _ _ _ _ r.ring n saw more;
          free_slots = All-weaker (IsFreeSlot setting.places slots) (IsFreeSlot setting.places _)
              (λ k f. record {
                within = f.within;
                flag = ringing.flag-kept _ _ _ _ _ _ _ _ r.ring (length app.view.written) i n k (λ e. absurd (omega arith)) ∙ f.flag;
              })
              app.inside.free_slots r.free_slots;
          raw_slot = r.raw_slot;
          none_raw = r.none_raw;
        });
        notes = rings.notes;
        left = rings.left;
      })
      (λ k x is ne. let all = rule.rings k x is in
      record {
        refills = rw (ring-other words.refills a s i n x.view.app (λ e. ne (sym is.number ∙ e))) all.refills;
        notes = all.notes;
        left = all.left;
      }))

  -- ---- its note ring

  look-note : (full : Bool) → (full ≡ true → slot_word words.notes a (takes_note_at setting app) 0 ≡ 1)
      → RefRule setting words nic (set apps a (side_slot_looked app full))
  look-note true flag =
      RefRule-app setting words nic apps a app rule here (side_slot_looked app true) refl (rule.sides.returns a app here).settled
      (rule.sides.returns a app here).quiet (λ e. e) words (no-word setting words rule.sizes)
      (rings-others setting words nic apps a app (side_slot_looked app true) here
      (record { refills = rings.refills; notes = ringing.sees-full _ _ _ _ _ _ _ _ rings.notes (flag refl); left = rings.left })
      (λ k x is ne. rule.rings k x is))
  look-note false flag =
      RefRule-app setting words nic apps a app rule here (side_slot_looked app false) refl (rule.sides.returns a app here).settled
      (rule.sides.returns a app here).quiet (λ e. e) words (no-word setting words rule.sizes)
      (rings-app setting words nic apps a app (side_slot_looked app false) here refl refl refl refl refl refl refl rule.rings)

  pub load-note : app.inside.note_slot.seen ≡ true → 1 + length app.inside.note_slot.words < note_width
      → RefRule setting words nic (set apps a
      (side_slot_loaded app (slot_word words.notes a (takes_note_at setting app) (1 + length app.inside.note_slot.words))))
  load-note saw more =
      let now = side_slot_loaded app (slot_word words.notes a (takes_note_at setting app) (1 + length app.inside.note_slot.words)) in
      RefRule-app setting words nic apps a app rule here now refl (rule.sides.returns a app here).settled
      (rule.sides.returns a app here).quiet (λ e. e) words (no-word setting words rule.sizes)
      (rings-others setting words nic apps a app now here
      (record { refills = rings.refills; notes = ringing.loads _ _ _ _ _ _ _ _ rings.notes saw more; left = rings.left })
      (λ k x is ne. rule.rings k x is))

  -- ---- by what the flag says

  pub looked-entry : RefRule setting words nic (set apps a (side_refill_looked app (slot_word words.refills a (writes_entry_at setting app) 0 == 0)))
  looked-entry = look-entry (slot_word words.refills a (writes_entry_at setting app) 0 == 0) (λ e. eqb-true _ 0 e)

  pub looked-note : RefRule setting words nic (set apps a (side_slot_looked app (slot_word words.notes a (takes_note_at setting app) 0 == 1)))
  looked-note = look-note (slot_word words.notes a (takes_note_at setting app) 0 == 1) (λ e. eqb-true _ 1 e)
