-- An application looks whether the card has ended, and then at its next note slot.
use Rattle.std.{proofs.Common.{◌≡◌, ℕ, Bool, true, false, List, [], length, set, get_or, refl, sym, ◌∙◌, ap, arith, ⊎_elim}, specs.Prelude.{◌==◌, if◌then◌else◌}}
use Rattle.std.proofs.lemmas.{Bool.{eqb-true, eq-eqb, false≢true, cases_lt}, List.{drop_all}}
use Rattle.board_face.specs.{AppEvents.{app_saw, told_end}, Holders.{sent_to, on_way}, Sides.{IsApp}, declared.views.{parts.Setting.{Setting}, nic.NicSide.{NicSide}}}
use Rattle.board_face.specs.declared.views.app.{AppLook.TheVariants.{NoNote}, AppSide.{AppSide}}
use Rattle.word_rings.specs.Slots.{note_of}
use Rattle.ref_words.specs.{Words.{Words, slot_word}, Rings.{AreRings, takes_note_at}, Rule.{RefRule}, PhaseRule.{IsAppPhased, PhaseRule, phase_word}}
use Rattle.ref_words.{specs.PhaseSteps.{side_end_looked, side_note_sought}, proofs.{AppLooks.{RefRule-looked}, Phases.{phases-mine, phases-app, phases-kept}}}
use Rattle.ref_words.proofs.{PhaseWords.{is-over}, RingSteps.{rings-app, rings-others}, SlotSteps.{no-word}}
use Rattle.ref_words.proofs.Ringing as ringing

module _ (setting : Setting) (words : Words) (nic : NicSide) (apps : List AppSide) (app : AppSide) (rule : RefRule setting words nic apps)
    (was : PhaseRule setting words nic apps) (here : IsApp apps app.view.app app) where
  abbrev a : ℕ
  a = app.view.app

  mine : IsAppPhased words.phases nic app
  mine = phases-mine words.phases nic apps was a app here

  -- ---- whether the card has ended

  looks-end : (ended : Bool) → RefRule setting words nic (set apps a (side_end_looked app ended))
  looks-end true =
      let r = rule.sides.returns a app here in
      RefRule-looked setting words nic apps a app rule here (side_end_looked app true) refl r.settled r.quiet (λ e. e)
      (rule.sides.reserves a app here).unheld words (no-word setting words rule.sizes)
      (rings-app setting words nic apps a app (side_end_looked app true) here refl refl refl refl refl refl refl rule.rings)
  looks-end false =
      let r = rule.sides.returns a app here in
      RefRule-looked setting words nic apps a app rule here (side_end_looked app false) refl r.settled r.quiet (λ e. e)
      (rule.sides.reserves a app here).unheld words (no-word setting words rule.sizes)
      (rings-app setting words nic apps a app (side_end_looked app false) here refl refl refl refl refl refl refl rule.rings)

  end-phases : (ended : Bool) → (ended ≡ true → get_or words.phases 0 0 ≡ 1) → PhaseRule setting words nic (set apps a (side_end_looked app ended))
  end-phases true over =
      phases-app words.phases nic apps was a app here (side_end_looked app true) (record {
        word = mine.word;
        left = mine.left;
        seen = λ e. is-over nic.view.ended (sym was.word ∙ over refl);
        told = mine.told;
        lies = mine.lies;
      })
  end-phases false over =
      phases-kept words.phases nic apps was a app here (side_end_looked app false) refl refl refl refl refl refl refl refl refl refl refl

  -- an end that was seen is there for good
  pub stays-over : app.inside.end_seen ≡ true → get_or words.phases 0 0 ≡ 1
  stays-over saw = was.word ∙ ap phase_word (mine.seen saw)

  pub RefRule-end : RefRule setting words nic (set apps a (side_end_looked app (get_or words.phases 0 0 == 1)))
  RefRule-end = looks-end (get_or words.phases 0 0 == 1)

  pub end_looked-phases : PhaseRule setting words nic (set apps a (side_end_looked app (get_or words.phases 0 0 == 1)))
  end_looked-phases = end-phases (get_or words.phases 0 0 == 1) (λ e. eqb-true _ 1 e)

  -- ---- whether a note is there

  abbrev flag : ℕ
  flag = slot_word words.notes a (takes_note_at setting app) 0

  rings : AreRings setting words nic app
  rings = rule.rings a app here

  -- where the slot is empty, all notes that were sent are taken
  none-way : (flag ≡ 1 → ⊥) → on_way nic app ≡ []
  none-way empty =
      drop_all (length app.view.taken) (sent_to a nic)
      (⊎_elim
      (λ more. absurd (empty (ap (λ slot. get_or slot 0 0) (rings.notes.full (length app.view.taken)
      (record { app = a; note = note_of []; bytes = [] }) (omega arith) more))))
      (λ all. all)
      (cases_lt (length app.view.taken) (length (sent_to a nic))))

  -- an empty slot, by whether the end was seen, or looked for and not seen
  abbrev found-none : Bool → Bool → AppSide
  found-none seen unseen' =
      if seen then record app { view = told_end app.view; inside = record app.inside { end_unseen = false } }
      else if unseen' then record app { view = app_saw app.view NoNote; inside = record app.inside { end_unseen = false } }
      else app

  finds-none : (seen unseen' : Bool) → RefRule setting words nic (set apps a (found-none seen unseen'))
  finds-none true unseen' =
      let r = rule.sides.returns a app here in
      RefRule-looked setting words nic apps a app rule here (found-none true unseen') refl r.settled r.quiet (λ e. e)
      (rule.sides.reserves a app here).unheld words (no-word setting words rule.sizes)
      (rings-app setting words nic apps a app (found-none true unseen') here refl refl refl refl refl refl refl rule.rings)
  finds-none false true =
      let r = rule.sides.returns a app here in
      RefRule-looked setting words nic apps a app rule here (found-none false true) refl r.settled r.quiet (λ e. e)
      (rule.sides.reserves a app here).unheld words (no-word setting words rule.sizes)
      (rings-app setting words nic apps a app (found-none false true) here refl refl refl refl refl refl refl rule.rings)
  finds-none false false =
      let r = rule.sides.returns a app here in
      RefRule-looked setting words nic apps a app rule here app refl r.settled r.quiet (λ e. e)
      (rule.sides.reserves a app here).unheld words (no-word setting words rule.sizes)
      (rings-app setting words nic apps a app app here refl refl refl refl refl refl refl rule.rings)

  none-phases : (flag ≡ 1 → ⊥) → (seen unseen' : Bool) → app.inside.end_seen ≡ seen
      → PhaseRule setting words nic (set apps a (found-none seen unseen'))
  none-phases empty true unseen' saw =
      phases-app words.phases nic apps was a app here (found-none true unseen') (record {
        word = mine.word;
        left = λ e. let can = mine.left e in
            record { scrubbed = can.scrubbed; ended = refl; helds = can.helds; loans = can.loans; spares = can.spares };
        seen = mine.seen;
        told = λ e. (mine.seen saw, none-way empty);
        lies = assumption mine.lies;
      })
  none-phases empty false true saw =
      phases-kept words.phases nic apps was a app here (found-none false true) refl refl refl refl refl refl refl refl refl refl refl
  none-phases empty false false saw = phases-kept words.phases nic apps was a app here app refl refl refl refl refl refl refl refl refl refl refl

  seeks : (full : Bool) → (full ≡ true → flag ≡ 1) → RefRule setting words nic (set apps a (side_note_sought app full))
  seeks true is =
      let r = rule.sides.returns a app here in
      RefRule-looked setting words nic apps a app rule here (side_note_sought app true) refl r.settled r.quiet (λ e. e)
      (rule.sides.reserves a app here).unheld words (no-word setting words rule.sizes)
      (rings-others setting words nic apps a app (side_note_sought app true) here
      (record { refills = rings.refills; notes = ringing.sees-full _ _ _ _ _ _ _ _ rings.notes (is refl); left = rings.left })
      (λ k x it ne. rule.rings k x it))
  seeks false is = finds-none app.inside.end_seen app.inside.end_unseen

  seek-phases : (full : Bool) → (full ≡ false → flag ≡ 1 → ⊥) → PhaseRule setting words nic (set apps a (side_note_sought app full))
  seek-phases true empty =
      phases-kept words.phases nic apps was a app here (side_note_sought app true) refl refl refl refl refl refl refl refl refl refl refl
  seek-phases false empty = none-phases (empty refl) app.inside.end_seen app.inside.end_unseen refl

  pub RefRule-sought : RefRule setting words nic (set apps a (side_note_sought app (flag == 1)))
  RefRule-sought = seeks (flag == 1) (λ e. eqb-true _ 1 e)

  pub sought-phases : PhaseRule setting words nic (set apps a (side_note_sought app (flag == 1)))
  sought-phases = seek-phases (flag == 1) (λ e is. false≢true (sym e ∙ eq-eqb _ 1 is))
