-- Phases stay told by each step of an application at slots.
use Rattle.std.proofs.Common.{◌≡◌, ℕ, Bool, true, false, List, set, refl, sym, ◌∙◌, ap}
use Rattle.zr_kinds.specs.declared.{place.{Place.{Place}, Note.{Note}}, ring.Rqe.{Rqe}}
use Rattle.board_face.specs.{AppCalls.{HasLoan, TookNote}, AppEvents.{took_note}, Texts.{IsSplitNote}, Sides.{IsApp}}
use Rattle.board_face.specs.SlotSteps.{side_refill_looked, side_refill_stored, side_gave, side_pushed}
use Rattle.board_face.specs.{SlotSteps.{side_slot_looked, side_slot_loaded, side_took_note, side_took_linear}, declared.views.parts.Setting.{Setting}}
use Rattle.board_face.{specs.declared.views.{nic.NicSide.{NicSide}, app.AppSide.{AppSide}}, proofs.OwnBufferLemmas.{AppLiesInOwn-abandoned, AppLiesInOwn-took_note}}
use Rattle.board_face.{proofs.NewNotes.{new-of_pool, new-lies, new-apart}, specs.Laws.{IsNextNote}}
use Rattle.ref_words.{specs.{Words.{Words}, Rule.{RefRule}, PhaseRule.{IsAppPhased, PhaseRule}}, proofs.Phases.{phases-mine, phases-app, phases-here, phases-kept}}
use Rattle.ref_words.proofs.{PhasesByApp.{loan-here}, SideSteps.{own-setting}}

module _ (setting : Setting) (words : Words) (nic : NicSide) (apps : List AppSide) (rule : RefRule setting words nic apps)
    (was : PhaseRule setting words nic apps) (a : ℕ) (app : AppSide) (here : IsApp apps a app) where
  mine : IsAppPhased words.phases nic app
  mine = phases-mine words.phases nic apps was a app here

  -- ---- refill slots

  pub refill_looked-phases : (free : Bool) → PhaseRule setting words nic (set apps a (side_refill_looked app free))
  refill_looked-phases true =
      phases-kept words.phases nic apps was a app here (side_refill_looked app true) refl refl refl refl refl refl refl refl refl refl refl
  refill_looked-phases false =
      phases-kept words.phases nic apps was a app here (side_refill_looked app false) refl refl refl refl refl refl refl refl refl refl refl

  pub refill_stored-phases : (n : ℕ) → PhaseRule setting words nic (set apps a (side_refill_stored app n))
  refill_stored-phases n =
      phases-kept words.phases nic apps was a app here (side_refill_stored app n) refl refl refl refl refl refl refl refl refl refl refl

  pub gave-phases : (place : Place) → HasLoan app.view place → PhaseRule setting words nic (set apps a (side_gave app place))
  gave-phases place out =
      let lies = AppLiesInOwn-abandoned app.view place out mine.lies in
      phases-here words.phases nic apps was a app here (side_gave app place) refl refl refl refl refl
      (loan-here setting words nic apps rule was a app here place out)
      (assumption lies)

  pub pushed-phases : (entry : Rqe) → PhaseRule setting words nic (set apps a (side_pushed app entry))
  pushed-phases entry =
      phases-kept words.phases nic apps was a app here (side_pushed app entry) refl refl refl refl refl refl refl refl refl refl refl

  -- ---- note slots

  pub slot_looked-phases : (full : Bool) → PhaseRule setting words nic (set apps a (side_slot_looked app full))
  slot_looked-phases true =
      phases-kept words.phases nic apps was a app here (side_slot_looked app true) refl refl refl refl refl refl refl refl refl refl refl
  slot_looked-phases false =
      phases-kept words.phases nic apps was a app here (side_slot_looked app false) refl refl refl refl refl refl refl refl refl refl refl

  pub slot_loaded-phases : (n : ℕ) → PhaseRule setting words nic (set apps a (side_slot_loaded app n))
  slot_loaded-phases n =
      phases-kept words.phases nic apps was a app here (side_slot_loaded app n) refl refl refl refl refl refl refl refl refl refl refl

  -- as a note is on its way, the application wasn't told the end, so it hasn't left
  module _ (note : Note) (next : IsNextNote nic app note) where
    untold : app.view.ended ≡ true → ⊥
    untold told = let none = (mine.told told).1 in let some = next.way in cc

    unleft : app.view.left ≡ true → ⊥
    unleft over = untold (mine.left over).ended

    layouts : nic.view.setting.layout ≡ app.view.setting.layout
    layouts = ap (λ s. s.layout) (rule.sides.set.card ∙ sym (own-setting setting nic apps a app rule.sides here))

    -- where the piece of the note lies that is taken
    pub took-note : IsSplitNote note → TookNote app.view (took_note app.view note) note note.place
    took-note fields =
        let lies = new-lies nic apps a app here note next fields.split rule.sides.placed rule.sides.by_one in
        record {
          event = refl;
          place = refl;
          fields = fields;
          some_bytes = lies.1;
          lies = rw (← layouts) lies.0;
          of_pool = rw (← layouts) (new-of_pool nic apps a app here note next fields.split was.lies);
          apart = new-apart nic apps a app here note next fields.split rule.sides.placed rule.sides.by_one;
        }

    pub took_note-phases : note.split ≡ true → PhaseRule setting words nic (set apps a (side_took_note app note))
    took_note-phases split =
        let of_pool = new-of_pool nic apps a app here note next split was.lies in
        let lies = AppLiesInOwn-took_note app.view note (rw (← layouts) of_pool) mine.lies in
        phases-app words.phases nic apps was a app here (side_took_note app note) (record {
          word = mine.word;
          left = λ over. absurd (unleft over);
          seen = mine.seen;
          told = λ told. absurd (untold told);
          lies = lies;
        })

    pub took_linear-phases : (bytes : List ℕ) → PhaseRule setting words nic (set apps a (side_took_linear app note bytes))
    took_linear-phases bytes =
        let lies = mine.lies in
        phases-app words.phases nic apps was a app here (side_took_linear app note bytes) (record {
          word = mine.word;
          left = λ over. absurd (unleft over);
          seen = mine.seen;
          told = λ told. absurd (untold told);
          lies = assumption lies;
        })
