-- Phases stay told by each step of the card at counts and slots.
use Rattle.std.{proofs.{Common.{◌≡◌, ℕ, Bool, true, false, List, map, refl, ap, ⊎_elim}, lemmas.{Bool.{cases_Bool}, List.Elements.{All-contains}}}, specs.Prelude.{◌<◌}}
use Rattle.zr_kinds.{specs.declared.{place.Note.{Note}, ring.Rqe.{Rqe}}, proofs.Lists.{none-in}}
use Rattle.area_layout.specs.Layout.{pool_buffers}
use Rattle.board_face.specs.{NicEvents.{took}, NicCalls.{IsOpen, HasOwn, HasPiece}, OwnBuffers.{LieInOwn}, Sides.{nic_at}}
use Rattle.board_face.specs.Steps.{side_begun, side_shut, side_judged, side_user_lowered, side_both_lowered}
use Rattle.board_face.specs.SlotSteps.{side_entry_looked, side_entry_loaded, side_in_hand, side_dealt, side_note_looked, side_note_stored, side_sent, side_sent_linear}
use Rattle.board_face.specs.declared.views.{parts.{Setting.{Setting}, Filling.{Filling}}, nic.{Fate.{Fate}, NicSide.{NicSide}}, app.AppSide.{AppSide}}
use Rattle.board_face.proofs.OwnBufferLemmas.{LieInOwn-sent, LieInOwn-sent_linear}
use Rattle.ref_words.{specs.{Words.{Words}, Rule.{RefRule}, PhaseRule.{PhaseRule}}, proofs.Phases.{phases-open, phases-still, LieInOwn-by}}

module _ (setting : Setting) (words : Words) (nic : NicSide) (apps : List AppSide) (rule : RefRule setting words nic apps)
    (was : PhaseRule setting words nic apps) where
  pub own-open : (own : Filling) → HasOwn nic.view own → IsOpen nic.view
  own-open own out =
      ⊎_elim (λ over. absurd (none-in nic.view.owns own out (was.ended over).none.owns)) (λ going. going) (cases_Bool nic.view.ended)

  -- ---- pool counts

  pub took-phases : (b : ℕ) → IsOpen nic.view → PhaseRule setting words (nic_at nic (took nic.view b)) apps
  took-phases b going =
      phases-open words.phases nic apps was (nic_at nic (took nic.view b)) refl refl going
      (assumption was.lies) was.made

  pub begun-phases : (own : Filling) (n : ℕ) → HasOwn nic.view own → PhaseRule setting words (side_begun nic own n) apps
  begun-phases own n out =
      phases-open words.phases nic apps was (side_begun nic own n) refl refl (own-open own out)
      (assumption was.lies)
      (All-contains (λ (o : Filling). o.buffer < pool_buffers nic.view.setting.layout) nic.view.owns _ rule.sides.fit.of_pool out)

  pub shut-phases : (own : Filling) (last : Bool) → HasOwn nic.view own → PhaseRule setting words (side_shut nic own last) apps
  shut-phases own last out =
      phases-open words.phases nic apps was (side_shut nic own last) refl refl (own-open own out)
      (assumption was.lies) was.made

  pub both_lowered-phases : (a : ℕ) (entry : Rqe) (b : ℕ) (last : Bool) → PhaseRule setting words (side_both_lowered nic a entry b last) apps
  both_lowered-phases a entry b last =
      phases-still words.phases nic apps was (side_both_lowered nic a entry b last) refl refl refl refl refl refl refl

  -- ---- user counts

  pub judged-phases : (a : ℕ) (entry : Rqe) (b : ℕ) (none : Bool) → PhaseRule setting words (side_judged nic a entry b none) apps
  judged-phases a entry b none =
      phases-still words.phases nic apps was (side_judged nic a entry b none) refl refl refl refl refl refl refl

  pub user_lowered-phases : (a : ℕ) (entry : Rqe) (b : ℕ) → PhaseRule setting words (side_user_lowered nic a entry b) apps
  user_lowered-phases a entry b =
      phases-still words.phases nic apps was (side_user_lowered nic a entry b) refl refl refl refl refl refl refl

  -- ---- refill slots

  pub entry_looked-phases : (a : ℕ) (full : Bool) → PhaseRule setting words (side_entry_looked nic a full) apps
  entry_looked-phases a true = phases-still words.phases nic apps was (side_entry_looked nic a true) refl refl refl refl refl refl refl
  entry_looked-phases a false = phases-still words.phases nic apps was (side_entry_looked nic a false) refl refl refl refl refl refl refl

  pub entry_loaded-phases : (a n : ℕ) → PhaseRule setting words (side_entry_loaded nic a n) apps
  entry_loaded-phases a n = phases-still words.phases nic apps was (side_entry_loaded nic a n) refl refl refl refl refl refl refl

  pub in_hand-phases : (a n : ℕ) (entry : Rqe) → PhaseRule setting words (side_in_hand nic a n entry) apps
  in_hand-phases a n entry = phases-still words.phases nic apps was (side_in_hand nic a n entry) refl refl refl refl refl refl refl

  pub dealt-phases : (a : ℕ) (entry : Rqe) (fate : Fate) → PhaseRule setting words (side_dealt nic a entry fate) apps
  dealt-phases a entry fate = phases-still words.phases nic apps was (side_dealt nic a entry fate) refl refl refl refl refl refl refl

  -- ---- note slots

  pub note_looked-phases : (a : ℕ) (free : Bool) → PhaseRule setting words (side_note_looked nic a free) apps
  note_looked-phases a true = phases-still words.phases nic apps was (side_note_looked nic a true) refl refl refl refl refl refl refl
  note_looked-phases a false = phases-still words.phases nic apps was (side_note_looked nic a false) refl refl refl refl refl refl refl

  pub note_stored-phases : (a n : ℕ) → PhaseRule setting words (side_note_stored nic a n) apps
  note_stored-phases a n = phases-still words.phases nic apps was (side_note_stored nic a n) refl refl refl refl refl refl refl

  lies : LieInOwn nic apps
  lies = LieInOwn-by setting words nic apps rule was

  pub sent-phases : (a : ℕ) (note : Note) → HasPiece nic.view note.place → PhaseRule setting words (side_sent nic a note) apps
  sent-phases a note out =
      let own = LieInOwn-sent nic apps a note out lies in
      phases-open words.phases nic apps was (side_sent nic a note) refl refl
      (⊎_elim
      (λ over. absurd (none-in _ note.place out (ap (map (λ p. p.place)) (was.ended over).none.pieces)))
      (λ going. going)
      (cases_Bool nic.view.ended))
      (assumption own.card) was.made

  pub sent_linear-phases : (a : ℕ) (note : Note) (bytes : List ℕ) → IsOpen nic.view → note.split ≡ false
      → PhaseRule setting words (side_sent_linear nic a note bytes) apps
  sent_linear-phases a note bytes going unsplit =
      let own = LieInOwn-sent_linear nic apps a note bytes unsplit lies in
      phases-open words.phases nic apps was (side_sent_linear nic a note bytes) refl refl going
      (assumption own.card) was.made
