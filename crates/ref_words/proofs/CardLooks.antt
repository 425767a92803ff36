-- Whether the card has ended, what it has seen, and what it has in hand, are all that changes, and no more was lowered for that than
-- before.
use Rattle.std.{proofs.Common.{◌≡◌, ℕ, Bool, List, length, drop, refl, ap, sym, arith, subst}, specs.Prelude.{Some}}
use Rattle.board_face.specs.{Holders.{lowered_in_hand, returning_in_hand, ended_in, returning_count, returned_in, owed_in}, declared.views.parts.Setting.{Setting}}
use Rattle.board_face.specs.declared.views.{nic.{EntryInHand.{EntryInHand}, NicLook.{NicLook}, NicSide.{NicSide}}, app.AppSide.{AppSide}}
use Rattle.ref_words.{specs.{Words.{Words}, Sides.{IsInHand}, Rule.{RefRule}}, proofs.{CardSteps.{AreReturns-owed}, RingSteps.{AllRings, rings-card, rings-words}}}
use Rattle.ref_words.proofs.{SlotSteps.{DifferInSlots}, CardEnds.{RefRule-ended}}

module _ (setting : Setting) (words : Words) (nic : NicSide) (apps : List AppSide) (rule : RefRule setting words nic apps) (now : NicSide)
    (same : now ≡ record {
      view = record nic.view { ended = now.view.ended; gone = now.view.gone; looks = now.view.looks };
      inside = record nic.inside {
        entry = now.inside.entry;
        note_slots = now.inside.note_slots;
        refill_slots = now.inside.refill_slots;
      };
    })
    (notes : length now.inside.note_slots ≡ length nic.inside.note_slots)
    (refills : length now.inside.refill_slots ≡ length nic.inside.refill_slots)
    (lowered : (x c : ℕ) → lowered_in_hand x c now.inside.entry ≡ lowered_in_hand x c nic.inside.entry)
    (returning : (x c : ℕ) → returning_in_hand x c now.inside.entry ≡ returning_in_hand x c nic.inside.entry) where
  abbrev like : NicSide
  like = record {
    view = record nic.view { ended = now.view.ended; gone = now.view.gone; looks = now.view.looks };
    inside = record nic.inside { entry = now.inside.entry; note_slots = now.inside.note_slots; refill_slots = now.inside.refill_slots };
  }

  ends : (c : ℕ) (x : AppSide) → ended_in c like x ≡ ended_in c nic x
  ends c x = omega (arith, lowered x.view.app c)

  returns-same : (c : ℕ) (x : AppSide) → returning_count c like x ≡ returning_count c nic x
  returns-same c x = omega (arith, returning x.view.app c)

  pub RefRule-card : (words' : Words) → DifferInSlots setting words words'
      → ((it : EntryInHand) → now.inside.entry ≡ Some it → IsInHand like apps it) → AllRings setting words' like apps
      → RefRule setting words' now apps
  RefRule-card words' differ hand rings =
      subst (λ x. RefRule setting words' x apps) (sym same)
      (RefRule-ended setting words nic apps rule like refl notes refills ends returns-same words' differ
      (λ k x here.
      let owed : (c : ℕ) → length (owed_in c like x) ≡ length (owed_in c nic x) = λ c. ap (λ h. length (drop h (returned_in c x))) (ends c x) in
      AreReturns-owed nic like x refl (λ c. omega (arith, lowered x.view.app c, owed c)) (rule.sides.returns k x here))
      (λ k x here. assumption (rule.sides.dealt k x here)) rule.sides.honoured hand rings)

-- Neither the entry in hand nor a slot changes.
module _ (setting : Setting) (words : Words) (nic : NicSide) (apps : List AppSide) (rule : RefRule setting words nic apps) where
  pub RefRule-told : (over : Bool) (left : List ℕ) (saw : List NicLook) (words' : Words) → DifferInSlots setting words words'
      → words'.refills ≡ words.refills → words'.notes ≡ words.notes
      → RefRule setting words' (record nic { view = record nic.view { ended = over; gone = left; looks = saw } }) apps
  RefRule-told over left saw words' differ refills notes =
      let now : NicSide = record nic { view = record nic.view { ended = over; gone = left; looks = saw } } in
      RefRule-card setting words nic apps rule now refl refl refl (λ x c. refl) (λ x c. refl) words' differ
      (λ it is. assumption (rule.sides.hand it is))
      (rings-words setting words words' now apps refills notes (rings-card setting words nic now apps refl refl refl refl rule.rings))
