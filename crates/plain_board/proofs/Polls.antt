-- A look for a note: which note was the next, and what of it is logged.
use Rattle.std.{proofs.Common.{◌≡◌, ℕ, List, [], ◌∷◌, ◌++◌, map, take, refl, ap, append_assoc}, specs.List.{AllByRecursion}}
use Rattle.zr_kinds.specs.{declared.{place.{Note.{Note}, Place.{Place}}, ring.Rqe.{Rqe}, event.Event.{Event}}, LegalRun.{HasSmallNumbers}}
use Rattle.board_face.specs.{AppCalls.{Looked, TookNote}, AppEvents.{took_linear, took_note}, Holders.{sent_to}, Laws.{IsNextNote}}
use Rattle.board_face.specs.{Relay.{Relayed, as_taken}, Sides.{IsApp}, declared.answers.Polled.{Polled}}
use Rattle.board_face.specs.declared.answers.Polled.TheVariants.{Note as got_note, Linear as got_linear, Empty as got_none, Ended as got_end}
use Rattle.board_face.specs.declared.views.{nic.NicSide.{NicSide}, app.{AppLook.TheVariants.{NoNote}, AppView.{AppView}, AppSide.{AppSide}, TakenNote.{TakenNote}}}
use Rattle.board_face.{proofs.RelayLemmas.{NoteComesNext-relayed}, specs.BoardSteps.{AppStep, AppCan, app, app_view, polls, polls_linear, sees, is_told}}
use Rattle.zr_kinds.specs.declared.event.Event.TheVariants as event
use Rattle.plain_board.specs.{Logs.{KeptEvents, all_logged, logged}, StepEvents.{MayTell, app_events}}
use Rattle.plain_board.specs.{Board.{Part}, Told.{PollTells}, OneSide.{OnlyView}, Recorded.{IsSoundPart}, Stand.{Stand, side_of, sides_of}}
use Rattle.plain_board.proofs.{AppFrames.{here-of}, Logging.{app-told, part_with}}

next-note : (nic : NicSide) (x : AppSide) (t : TakenNote) (ns us : List TakenNote) (es : List Rqe)
    → (x.view.taken ++ t ∷ []) ++ ns ≡ map as_taken (sent_to x.view.app nic) → Relayed nic x us es → IsNextNote nic x t.note
next-note nic x t ns us es sent was =
    let there : Relayed nic x (t ∷ ns) es = record { notes = simp append_assoc at sent; reads = was.reads; entries = was.entries } in
    NoteComesNext-relayed nic x t ns es there

-- no split note was taken
abbrev pub HasNoNote : Polled → Type 0
HasNoNote polled = (note : Note) (held : Place) → polled ≡ got_note note held → ⊥

module _ (old new : Stand) (a : ℕ) (log : KeptEvents) (was : IsSoundPart (part_with old a log)) (only : OnlyView old new a) where
  here : IsApp old.apps a (side_of old a)
  here = here-of old a was.board.sound was.app

  -- what it took now was the next
  taken-next : (v : AppView) (t : TakenNote) → (side_of new a).view ≡ v → v.taken ≡ (side_of old a).view.taken ++ t ∷ []
      → v.app ≡ (side_of old a).view.app → IsNextNote old.nic (side_of old a) t.note
  taken-next v t view takes same =
      let nic : new.nic ≡ old.nic = ap (λ o. o.card) only.others in
      let now = only.sound.relayed.relayed a (side_of new a) (here-of new a only.sound (rw only.layout was.app)) in
      next-note old.nic (side_of old a) t _ _ _ (rw (view, nic, takes, same) at now.notes) (was.board.sound.relayed.relayed a (side_of old a) here)

  told : (step : AppStep) → AppCan step old.nic (side_of old a) → MayTell (app a step) (sides_of old)
      → (side_of new a).view ≡ app_view step (side_of old a).view
      → (events : List Event) → events ≡ app_events a step (side_of old a).view (sides_of new) → AllByRecursion HasSmallNumbers events
      → IsSoundPart (part_with new a (all_logged log events))
  told step can may = app-told step old new a log was can may only

  pub polled-note : (note : Note) (held : Place) → TookNote (side_of old a).view (side_of new a).view note held
      → HasSmallNumbers (event.Held a note.place.buffer note.place.offset note.place.len)
      → IsSoundPart (part_with new a (logged log (event.Held a note.place.buffer note.place.offset note.place.len)))
  polled-note note held it small =
      let next = taken-next (took_note (side_of old a).view note) (record { note = note; bytes = [] }) it.event refl refl in
      told (polls note) (it.fields.split, next) tt it.event (event.Held a note.place.buffer note.place.offset note.place.len ∷ []) refl (small, tt)

  pub polled-other : (linear : List ℕ) (polled : Polled) → Looked (side_of old a).view (side_of new a).view linear polled → HasNoNote polled
      → IsSoundPart (part_with new a log)
  polled-other linear (got_note note held) it none = absurd (none note held refl)
  polled-other linear (got_linear note) it none =
      let bytes = take note.total linear in
      let next = taken-next (took_linear (side_of old a).view note bytes) (record { note = note; bytes = bytes }) it.event refl refl in
      told (polls_linear note bytes) (it.fields.split, next) tt it.event [] refl tt
  polled-other linear got_none it none = told (sees NoNote) tt tt it.event [] refl tt
  polled-other linear got_end it none = told is_told tt tt it.event [] refl tt

-- what the log tells, where it was none
pub other-tells : (old new : Part) (polled : Polled) → HasNoNote polled → new.board.log ≡ old.board.log → PollTells polled old new
other-tells old new (got_note note held) none same = absurd (none note held refl)
other-tells old new (got_linear note) none same = same
other-tells old new got_none none same = same
other-tells old new got_end none same = same
