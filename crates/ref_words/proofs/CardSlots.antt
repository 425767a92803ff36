-- The card looks at its next slots, loads words of entries and stores words of notes.
use Rattle.std.proofs.Common.{◌≡◌, ℕ, ◌+◌, ◌<◌, Bool, true, false, suc, ◌^◌, List, drop-cons, [], ◌∷◌, ◌++◌, length, drop, get_or, set, refl, ap, sym, ◌∙◌, arith}
use Rattle.std.{proofs.{Common.{subst, mod-lt}, lemmas.{Bool.{eqb-true}, List.{length-set, length_push}}}, specs.Prelude.{◌==◌, ◌≢◌, None, All}}
use Rattle.zr_kinds.specs.declared.ring.Rqe.{Rqe}
use Rattle.board_face.specs.{NicCalls.{apps_of}, Holders.{lowered_in_hand, returning_in_hand, sent_to}, Relay.{dealt_entries}, Sides.{IsApp}}
use Rattle.board_face.specs.SlotSteps.{seen_with, one_more, next_slot, side_entry_looked, side_entry_loaded, side_note_looked, side_note_stored, side_in_hand}
use Rattle.board_face.specs.{Opened.{new_app}, Returns.{entries_on_way}, declared.views.{nic.Judged.TheVariants.{Not}, app.WrittenEntry.{WrittenEntry}}}
use Rattle.board_face.{specs.declared.views.{parts.{Setting.{Setting}, Slot.{Slot}}, nic.NicSide.{NicSide}, app.AppSide.{AppSide}}, proofs.SideLemmas.{IsApp-at}}
use Rattle.word_rings.specs.Slots.{note_width, refill_width, entry_of_words, entry_body, pair, low_of, high_of}
use Rattle.ref_words.specs.{Words.{Words, slot_word, with_note}, Sides.{IsInHand, IsFirst}}
use Rattle.ref_words.specs.Rings.{IsRing, AreLeft, EntryFits, words_of_entry, words_of_note, takes_entry_at, writes_note_at}
use Rattle.ref_words.{specs.{Rings.{refill_words_at, note_words_at}, Rule.{RefRule}}, proofs.{InHand.{some-is, if-none}, RingSteps.{AllRings, rings-card}}}
use Rattle.ref_words.proofs.{RingMoves.{slot-here, slot-other, rings-parts}, SlotWords.{ring-here, ring-other, differ-note}, SlotSteps.{no-word, DifferInSlots}}
use Rattle.ref_words.proofs.CardLooks.{RefRule-card}
use Rattle.ref_words.proofs.Ringing as ringing
use Rattle.ref_words.proofs.LeftWords as left-words

-- the entry of a slot is the one whose words it has
entry-back : (e : Rqe) → e.len < 2 ^ 32 → e.pad < 2 ^ 32 → entry_of_words (1 ∷ entry_body e) ≡ e
entry-back e len pad =
    let low : low_of (pair e.len e.pad) ≡ e.len = omega arith in
    let high : high_of (pair e.len e.pad) ≡ e.pad = omega arith in
    rw (low, high) refl

module _ (setting : Setting) (words : Words) (nic : NicSide) (apps : List AppSide) (a : ℕ) (rule : RefRule setting words nic apps)
    (is_app : a < apps_of setting) where
  -- what its next slot is changes, and the ring there stays one
  pub refill-moves : (now : NicSide) (slot : Slot) → now.view.dealt ≡ nic.view.dealt → now.view.sent ≡ nic.view.sent
      → now.inside.note_slots ≡ nic.inside.note_slots → now.inside.refill_slots ≡ set nic.inside.refill_slots a slot
      → ((x : AppSide) → IsApp apps a x
      → IsRing refill_width words_of_entry setting.places (get_or words.refills a []) x.view.written (length (dealt_entries a nic))
      x.inside.refill_slot slot)
      → AllRings setting words now apps
  refill-moves now slot dealt sent notes slots ring =
      let there : a < length nic.inside.refill_slots = omega (arith, is_app, rule.sides.slots.refills) in
      rings-parts setting words now apps a
      (λ x is. let all = rule.rings a x is in let r = all.refills in record {
        refills = rw (is.number, dealt, slots, slot-here nic.inside.refill_slots a slot there) (record {
          ring = ring x is;
          free_slots = rw is.number at r.free_slots;
          raw_slot = r.raw_slot;
          none_raw = r.none_raw;
        });
        notes = rw (sent, notes) all.notes;
        left = rw (sent, notes) all.left;
      })
      (λ k x is ne. let all = rule.rings k x is in record {
        refills = rw (dealt, slots, slot-other nic.inside.refill_slots a slot x.view.app (λ e. ne (sym is.number ∙ e))) all.refills;
        notes = rw (sent, notes) all.notes;
        left = rw (sent, notes) all.left;
      })

  look-entry : (full : Bool) → (full ≡ true → slot_word words.refills a (takes_entry_at setting nic a) 0 ≡ 1)
      → RefRule setting words (side_entry_looked nic a full) apps
  look-entry true flag =
      RefRule-card setting words nic apps rule (side_entry_looked nic a true) refl refl
      (length-set nic.inside.refill_slots a (seen_with [])) (λ x c. refl) (λ x c. refl) words (no-word setting words rule.sizes)
      (λ it is. assumption (rule.sides.hand it is))
      (refill-moves (side_entry_looked nic a true) (seen_with []) refl refl refl refl
      (λ x is. ringing.sees-full _ _ _ _ _ _ _ _ (rw is.number at (rule.rings a x is).refills.ring) (flag refl)))
  look-entry false flag =
      RefRule-card setting words nic apps rule (side_entry_looked nic a false) refl refl refl (λ x c. refl) (λ x c. refl) words
      (no-word setting words rule.sizes)
      (λ it is. assumption (rule.sides.hand it is))
      (rings-card setting words nic (side_entry_looked nic a false) apps refl refl refl refl rule.rings)

  pub looked-entry : RefRule setting words (side_entry_looked nic a (slot_word words.refills a (takes_entry_at setting nic a) 0 == 1)) apps
  looked-entry = look-entry (slot_word words.refills a (takes_entry_at setting nic a) 0 == 1) (λ e. eqb-true _ 1 e)

  -- the ring, where a word more is loaded
  ring-loaded : (next_slot nic.inside.refill_slots a).seen ≡ true → refill_words_at nic a < refill_width → (x : AppSide) → IsApp apps a x
      → IsRing refill_width words_of_entry setting.places (get_or words.refills a []) x.view.written (length (dealt_entries a nic))
      x.inside.refill_slot
      (one_more (next_slot nic.inside.refill_slots a) (slot_word words.refills a (takes_entry_at setting nic a) (refill_words_at nic a)))
  ring-loaded saw more x is = ringing.loads _ _ _ _ _ _ _ _ (rw is.number at (rule.rings a x is).refills.ring) saw more

  pub load-entry : (next_slot nic.inside.refill_slots a).seen ≡ true → refill_words_at nic a < refill_width
      → RefRule setting words (side_entry_loaded nic a (slot_word words.refills a (takes_entry_at setting nic a) (refill_words_at nic a))) apps
  load-entry saw more =
      let n = slot_word words.refills a (takes_entry_at setting nic a) (refill_words_at nic a) in
      let now = side_entry_loaded nic a n in
      RefRule-card setting words nic apps rule now refl refl
      (length-set nic.inside.refill_slots a (one_more (next_slot nic.inside.refill_slots a) n)) (λ x c. refl) (λ x c. refl) words
      (no-word setting words rule.sizes)
      (λ it is. assumption (rule.sides.hand it is))
      (refill-moves now (one_more (next_slot nic.inside.refill_slots a) n) refl refl refl refl (ring-loaded saw more))

  -- ---- note rings

  note-moves : (words' : Words) (now : NicSide) (slot : Slot) → now.view.dealt ≡ nic.view.dealt → now.view.sent ≡ nic.view.sent
      → now.inside.refill_slots ≡ nic.inside.refill_slots → now.inside.note_slots ≡ set nic.inside.note_slots a slot
      → words'.refills ≡ words.refills → ((k : ℕ) → k ≢ a → get_or words'.notes k [] ≡ get_or words.notes k [])
      → ((x : AppSide) → IsApp apps a x
      → IsRing note_width (words_of_note setting) setting.places (get_or words'.notes a []) (sent_to a nic) (length x.view.taken) slot x.inside.note_slot
      × AreLeft note_width (words_of_note setting) setting.places (get_or words'.notes a []) (sent_to a nic) (length x.view.taken) slot)
      → AllRings setting words' now apps
  note-moves words' now slot dealt sent refills slots same others ring =
      let there : a < length nic.inside.note_slots = omega (arith, is_app, rule.sides.slots.notes) in
      rings-parts setting words' now apps a
      (λ x is. let all = rule.rings a x is in record {
        refills = rw (dealt, refills, same) all.refills;
        notes = rw (is.number, sent, slots, slot-here nic.inside.note_slots a slot there) (ring x is).0;
        left = rw (is.number, sent, slots, slot-here nic.inside.note_slots a slot there) (ring x is).1;
      })
      (λ k x is ne. let all = rule.rings k x is in let other : x.view.app ≢ a = λ e. ne (sym is.number ∙ e) in record {
        refills = rw (dealt, refills, same) all.refills;
        notes = rw (sent, slots, slot-other nic.inside.note_slots a slot x.view.app other, others x.view.app other) all.notes;
        left = rw (sent, slots, slot-other nic.inside.note_slots a slot x.view.app other, others x.view.app other) all.left;
      })

  look-note : (next_slot nic.inside.note_slots a).words ≡ [] → (free : Bool) → (free ≡ true → slot_word words.notes a (writes_note_at setting nic a) 0 ≡ 0)
      → RefRule setting words (side_note_looked nic a free) apps
  look-note none true flag =
      RefRule-card setting words nic apps rule (side_note_looked nic a true) refl
      (length-set nic.inside.note_slots a (seen_with [])) refl (λ x c. refl) (λ x c. refl) words (no-word setting words rule.sizes)
      (λ it is. assumption (rule.sides.hand it is))
      (note-moves words (side_note_looked nic a true) (seen_with []) refl refl refl refl refl (λ k ne. refl)
      (λ x is. let all = rule.rings a x is in let ring = rw is.number at all.notes in (
        ringing.sees-free _ _ _ _ _ _ _ _ ring (flag refl),
        left-words.looks _ _ _ _ _ _ _ _ ring (rw is.number at all.left) none,
      )))
  look-note none false flag =
      RefRule-card setting words nic apps rule (side_note_looked nic a false) refl refl refl (λ x c. refl) (λ x c. refl) words
      (no-word setting words rule.sizes)
      (λ it is. assumption (rule.sides.hand it is))
      (rings-card setting words nic (side_note_looked nic a false) apps refl refl refl refl rule.rings)

  pub looked-note : (next_slot nic.inside.note_slots a).words ≡ [] → RefRule setting words (side_note_looked nic a (slot_word words.notes a (writes_note_at setting nic a) 0 == 0)) apps
  looked-note none = look-note none (slot_word words.notes a (writes_note_at setting nic a) 0 == 0) (λ e. eqb-true _ 0 e)

  pub store-note : (n : ℕ) → (next_slot nic.inside.note_slots a).seen ≡ true → note_words_at nic a < note_width
      → RefRule setting (with_note words a (writes_note_at setting nic a) (note_words_at nic a) n) (side_note_stored nic a n) apps
  store-note n saw more =
      let i = note_words_at nic a in
      let s = writes_note_at setting nic a in
      let now = side_note_stored nic a n in
      let there : a < length words.notes = omega (arith, is_app, rule.sizes.notes) in
      let differ : DifferInSlots setting words (with_note words a s i n) =
      differ-note setting words rule.sizes a s i n is_app (mod-lt (length (sent_to a nic)) places_some) in
      RefRule-card setting words nic apps rule now refl
      (length-set nic.inside.note_slots a (one_more (next_slot nic.inside.note_slots a) n)) refl (λ x c. refl) (λ x c. refl)
      (with_note words a s i n) differ
      (λ it is. assumption (rule.sides.hand it is))
      (note-moves (with_note words a s i n) now (one_more (next_slot nic.inside.note_slots a) n) refl refl refl refl refl
      (λ k ne. ring-other words.notes a s i n k ne)
      (λ x is. let all = rule.rings a x is in let ring = rw is.number at all.notes in (
        rw (ring-here words.notes a s i n there) (ringing.stores _ _ _ _ _ _ _ _ ring n saw more),
        rw (ring-here words.notes a s i n there) (left-words.stores _ _ _ _ _ _ _ _ ring (rw is.number at all.left) n saw),
      )))
    where
      places_some : 0 < setting.places
      places_some =
          let x : AppSide = get_or apps a (new_app setting a) in
          (rule.rings a x (IsApp-at apps a (new_app setting a) rule.sides.set.numbers (omega (arith, is_app, rule.sides.set.many)))).notes.some

  -- ---- the entry in hand

  pub take-in-hand : (n : ℕ) → (next_slot nic.inside.refill_slots a).seen ≡ true → refill_words_at nic a + 1 ≡ refill_width
      → nic.inside.entry ≡ None → n ≡ slot_word words.refills a (takes_entry_at setting nic a) (refill_words_at nic a)
      → RefRule setting words (side_in_hand nic a n (entry_of_words (1 ∷ (next_slot nic.inside.refill_slots a).words ++ n ∷ []))) apps
  take-in-hand n saw all idle found =
      let slot = next_slot nic.inside.refill_slots a in
      let entry = entry_of_words (1 ∷ slot.words ++ n ∷ []) in
      let now = side_in_hand nic a n entry in
      let ring : (x : AppSide) → IsApp apps a x
      → IsRing refill_width words_of_entry setting.places (get_or words.refills a []) x.view.written (length (dealt_entries a nic))
      x.inside.refill_slot (one_more slot n) = λ x is. rw (← found) at (ring-loaded saw (omega arith) x is) in
      RefRule-card setting words nic apps rule now refl refl
      (length-set nic.inside.refill_slots a (one_more slot n)) (λ x c. if-none (a == x) ∙ sym (ap (lowered_in_hand x c) idle))
      (λ x c. if-none (a == x) ∙ sym (ap (returning_in_hand x c) idle)) words (no-word setting words rule.sizes)
      (λ it is. subst (IsInHand now apps) (some-is (record { app = a; entry = entry; judged = Not }) it is) (record {
        app = omega (arith, is_app, rule.sides.set.many);
        first = λ x here. first-is x here (ring x here);
        named = λ b e. absurd (let none : ⊥ = cc in none);
        owed = λ b e. absurd (let none : ⊥ = cc in none);
        lowered = λ b e. absurd (let none : ⊥ = cc in none);
        stray = λ e. absurd (let none : ⊥ = cc in none);
      }))
      (refill-moves now (one_more slot n) refl refl refl refl ring)
    where
      first-is : (x : AppSide) → IsApp apps a x
          → IsRing refill_width words_of_entry setting.places (get_or words.refills a []) x.view.written (length (dealt_entries a nic))
          x.inside.refill_slot (one_more (next_slot nic.inside.refill_slots a) n)
          → IsFirst (entry_of_words (1 ∷ (next_slot nic.inside.refill_slots a).words ++ n ∷ [])) (entries_on_way nic x)
      first-is x here ring =
          let slot = next_slot nic.inside.refill_slots a in
          let k = length (dealt_entries a nic) in
          let d : WrittenEntry = record { entry = entry_of_words (1 ∷ slot.words ++ n ∷ []); of_loan = true } in
          let w : WrittenEntry = get_or x.view.written k d in
          let less : k < length x.view.written = ring.reader_seen refl in
          let fits : All EntryFits x.view.written = subst (λ (y : AppSide). All EntryFits y.view.written) here.is (rule.sides.entries a x here.there) in
          let fit = fits k d less in
          let words_are : slot.words ++ n ∷ [] ≡ words_of_entry w =
          ringing.has-next _ _ _ _ _ _ _ _ ring d refl (omega (arith, all, length_push slot.words n)) in
          record {
            first = w;
            others = drop (suc k) x.view.written;
            is = rw here.number (drop-cons x.view.written k d less);
            same = sym (ap (λ ws. entry_of_words (1 ∷ ws)) words_are ∙ entry-back w.entry fit.len fit.pad);
          }
