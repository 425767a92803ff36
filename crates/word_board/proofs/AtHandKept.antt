-- What a role has at hand stays so at steps that have nothing to do with it.
use Rattle.std.proofs.{Common.{◌≡◌, ℕ, true, false, Bool, length, get_or, Some, refl, ap, sym, ◌∙◌, subst, arith}, lemmas.List.{get_or-set_same}}
use Rattle.zr_kinds.specs.declared.ring.Rqe.{Rqe}
use Rattle.board_face.specs.{NicCalls.{apps_of}, Opened.{unseen}, SlotSteps.{seen_with}, declared.views.parts.Slot.{Slot}}
use Rattle.board_face.specs.declared.views.{nic.{Judged.{Judged, TheVariants.{Not}}, NicSide.{NicSide}}, app.AppSide.{AppSide}}
use Rattle.word_rings.specs.Slots.{entry_body}
use Rattle.ref_words.specs.{PhaseSteps.{side_end_looked}, Rings.{takes_entry_at, writes_note_at, takes_note_at, writes_entry_at}}
use Rattle.word_board.specs.{AtHand.{TakesEntryAt, WritesNoteAt, TakesNoteAt, WritesEntryAt, HasEntry, CardIsBare}, Board.{TheNic, TheApp, side_entry_taken}}

-- ---- the next slot of a ring

pub still-takes-entry : {a s : ℕ} {old new : TheNic} {side : NicSide} → TakesEntryAt old a s → new ≡ record old { side = side }
    → side.view.dealt ≡ old.side.view.dealt → TakesEntryAt new a s
still-takes-entry {a} {s} {old} {new} {side} h is same =
    subst (λ (me : TheNic). TakesEntryAt me a s) (sym is) (record {
      here = h.here;
      within = h.within;
      next = h.next ∙ ap (λ ds. takes_entry_at old.board.setting (record old.side { view = record old.side.view { dealt = ds } }) a) (sym same);
    })

pub still-writes-note : {a s : ℕ} {old new : TheNic} {side : NicSide} → WritesNoteAt old a s → new ≡ record old { side = side }
    → side.view.sent ≡ old.side.view.sent → WritesNoteAt new a s
still-writes-note {a} {s} {old} {new} {side} h is same =
    subst (λ (me : TheNic). WritesNoteAt me a s) (sym is) (record {
      here = h.here;
      within = h.within;
      next = h.next ∙ ap (λ ss. writes_note_at old.board.setting (record old.side { view = record old.side.view { sent = ss } }) a) (sym same);
    })

pub still-takes-note : {s : ℕ} {old new : TheApp} {side : AppSide} → TakesNoteAt old s → new ≡ record old { side = side }
    → side.view.taken ≡ old.side.view.taken → TakesNoteAt new s
still-takes-note {s} {old} {new} {side} h is same =
    subst (λ (me : TheApp). TakesNoteAt me s) (sym is) (record {
      within = h.within;
      next = h.next ∙ ap (λ ts. takes_note_at old.board.setting (record old.side { view = record old.side.view { taken = ts } })) (sym same);
    })

pub still-writes-entry : {s : ℕ} {old new : TheApp} {side : AppSide} → WritesEntryAt old s → new ≡ record old { side = side }
    → side.view.written ≡ old.side.view.written → WritesEntryAt new s
still-writes-entry {s} {old} {new} {side} h is same =
    subst (λ (me : TheApp). WritesEntryAt me s) (sym is) (record {
      within = h.within;
      next = h.next ∙ ap (λ ws. writes_entry_at old.board.setting (record old.side { view = record old.side.view { written = ws } })) (sym same);
    })

-- a look for the end takes no note
pub looked-taken : (app : AppSide) (ended : Bool) → (side_end_looked app ended).view.taken ≡ app.view.taken
looked-taken app true = refl
looked-taken app false = refl

-- ---- an entry in hand

pub entry-taken : {a s : ℕ} {old new : TheNic} {entry : Rqe} → TakesEntryAt old a s → new ≡ record old { side = side_entry_taken old.side a (Some entry) }
    → length old.side.inside.refill_slots ≡ apps_of old.board.setting → HasEntry new a s entry Not
entry-taken {a} {s} {old} {new} {entry} h is many =
    subst (λ (me : TheNic). HasEntry me a s entry Not) (sym is) (record {
      at = record { here = h.here; within = h.within; next = h.next };
      seen = ap (λ (slot : Slot). slot.seen)
          (get_or-set_same old.side.inside.refill_slots a (seen_with (entry_body entry)) unseen (omega (arith, h.here, many)));
      in_hand = refl;
    })

pub still-entry : {a s : ℕ} {old new : TheNic} {side : NicSide} {entry : Rqe} {was is : Judged} → HasEntry old a s entry was
    → new ≡ record old { side = side } → side.view.dealt ≡ old.side.view.dealt → side.inside.refill_slots ≡ old.side.inside.refill_slots
    → side.inside.entry ≡ Some (record { app = a; entry = entry; judged = is }) → HasEntry new a s entry is
still-entry {a} {s} {old} {new} {side} {entry} {was} {is} h did same slots now =
    let at = still-takes-entry h.at did same in
    record {
      at = record { here = at.here; within = at.within; next = at.next };
      seen = ap (λ (me : TheNic). (slot_of me).seen) did ∙ (ap (λ ss. (get_or ss a unseen).seen) slots ∙ h.seen);
      in_hand = ap (λ (me : TheNic). me.side.inside.entry) did ∙ now;
    }
  where
    slot_of : TheNic → Slot
    slot_of me = get_or me.side.inside.refill_slots a unseen

-- ---- free buffers

pub still-bare : {old new : TheNic} {side : NicSide} → CardIsBare old → new ≡ record old { side = side }
    → side.view.setting ≡ old.side.view.setting → side.inside.hands ≡ old.side.inside.hands → CardIsBare new
still-bare {old} {new} {side} h is set hands =
    subst CardIsBare (sym is) (record { set = set ∙ h.set; hands = hands ∙ h.hands })
