-- An application looks for its next note.
use Rattle.std.proofs.Common.{◌≡◌, ℕ, ◌<◌, Bool, true, false, List, [], ◌∷◌, ◌++◌, length, map, take, drop, set, get_or, refl, ap, sym, ◌∙◌, arith}
use Rattle.std.{specs.Prelude.{if◌then◌else◌}, proofs.lemmas.List.{length-set, length-map, map-append, nil_from_length, get_or-set_same, get_or-set_other}}
use Rattle.std.proofs.lemmas.List.{Elements.{All-set}, Sums.{sum_by-append}}
use Rattle.circular_buffer.specs.Buffer.{Buffer, buffer}
use Rattle.board_face.specs.{Sides.{IsApp, app_at}, Holders.{on_way}, Fillings.{IsFilledByOne}, OwnBuffers.{AppLiesInOwn}, Looks.{AppTold}, Relay.{Relayed}}
use Rattle.board_face.specs.{Shown.{AreShown}, AppCalls.{IsHere, AppOnlySaw, ToldEnd, TookNote, TookLinear}}
use Rattle.board_face.specs.{AppEvents.{app_saw, app_gist, told_end, took_note, took_linear}, declared.views.app.AppLook.TheVariants.{NoNote, CardEnded}}
use Rattle.board_face.{specs.declared.views.app.{HeldPiece.{HeldPiece}, TakenNote.{TakenNote}, AppView.{AppView}, AppSide.{AppSide}}, proofs.Parts.{app_count}}
use Rattle.board_face.proofs.{AppLemmas.{app_count-took_note, app_count-took_linear}, RelayLemmas.{way-taken, NoteComesNext-relayed, Relayed-took}}
use Rattle.board_face.proofs.{LookLemmas.{AppRose-app_saw, AppTold-one}, FillingsFitLemmas.{FillingsFit-same}}
use Rattle.board_face.proofs.{IsFilledByOneLemmas.{IsFilledByOne-took_note, IsFilledByOne-took_linear}, OwnBufferLemmas.{AppLiesInOwn-took_note}}
use Rattle.board_face.{proofs.AreShownLemmas.{AreShown-took_note, AreShown-took_linear}, specs.Laws.{IsNextNote}}
use Rattle.board_parts.specs.{declared.slots.NoteSlot.{NoteSlot}, Rings.{popped}}
use Rattle.plain_board.{specs.{Stand.{Arrays, Stand, others_of, byte_of}, Seen.{IsSeenBy}}, proofs.RingSlots.{IsRing-popped}}
use Rattle.plain_board.specs.Sound.{IsRing, IsSound, IsAppAtRest, notes_of, refills_of, taken_of}
use Rattle.plain_board.proofs.AppFrames.{IsSet-app, was-at_rest, AreCounted-app, was-returned, AreRelayed-app, returns-app, was-returns, AreFlags-kept}
use Rattle.plain_board.proofs.AppFrames.{AreFreeOnce-app, AreKept-app, AreDue-app, was-given, was-due, AreBooked-kept}
use Rattle.plain_board.proofs.AppFrames.{ArePhased-app, was-phased, was-own, OwnBuffers-app}
use Rattle.plain_board.proofs.{FirstNote.{split-next, linear-next, some-next, lies-next, pool-next, new-next}, AppTold.{IsSound-told, IsSound-looked}}

-- ---- no note is there

abbrev pub ended_if : AppView → Bool → AppView
ended_if v ended = if ended then told_end v else app_saw v NoNote

module _ (board : Stand) (a : ℕ) (x : AppSide) (sound : IsSound board) (here : IsApp board.apps a x) (none : notes_of board.arrays a ≡ []) where
  none-way : on_way board.nic x ≡ []
  none-way =
      let e = ap length (way-taken board.nic x _ _ (sound.relayed.relayed a x here)) in
      nil_from_length (on_way board.nic x) (let many = simp length-map at e in let empty = ap length none in omega arith)

  pub IsSound-no_note : (ended : Bool) → board.arrays.ended ≡ ended
      → IsSound (record { arrays = board.arrays; nic = board.nic; apps = set board.apps a (app_at x (ended_if x.view ended)) })
  IsSound-no_note true is =
      let was = sound.returns a x here in
      IsSound-told board a x sound here x.view.settled x.view.quiet true (CardEnded ∷ x.view.looks) was.settled was.quiet
      (λ e. (sym sound.flags.ended ∙ is, none-way)) (λ e. refl)
  IsSound-no_note false is = IsSound-looked board a x NoNote sound here

  pub told-no_note : (ended : Bool) → board.arrays.ended ≡ ended
      → AppTold (λ look. IsSeenBy look (app_gist x.view) (others_of board a)) x.view (ended_if x.view ended)
  told-no_note true is = AppTold-one (λ look. IsSeenBy look (app_gist x.view) (others_of board a)) x.view (told_end x.view) CardEnded refl
      (sym sound.flags.ended ∙ is, none-way)
  told-no_note false is = AppTold-one (λ look. IsSeenBy look (app_gist x.view) (others_of board a)) x.view (app_saw x.view NoNote) NoNote refl
      (sym sound.flags.ended ∙ is, none-way)

pub ToldEnd-told : (v : AppView) → ToldEnd v (told_end v)
ToldEnd-told v = record { event = refl; rose = record { rose = (AppRose-app_saw v CardEnded).rose } }

pub AppOnlySaw-none : (v : AppView) → AppOnlySaw NoNote v (app_saw v NoNote)
AppOnlySaw-none v = record { event = refl; rose = AppRose-app_saw v NoNote }

-- ---- a note is taken

module _ (board : Stand) (a : ℕ) (x : AppSide) (slot : NoteSlot) (rest : List NoteSlot) (sound : IsSound board) (here : IsApp board.apps a x)
    (stays : IsHere x.view) (found : notes_of board.arrays a ≡ slot ∷ rest) where
  abbrev pub ring_then : Buffer NoteSlot
  ring_then = popped (get_or board.arrays.notes a (buffer [] 0))

  there : a < length board.arrays.notes
  there = let h = here.there in let many = sound.set.many in let size = sound.sizes.notes in omega arith

  was : Relayed board.nic x (taken_of slot ∷ map taken_of rest) (refills_of board.arrays a)
  was = rw found at (sound.relayed.relayed a x here)

  pub is-next : IsNextNote board.nic x slot.note
  is-next = NoteComesNext-relayed board.nic x (taken_of slot) (map taken_of rest) _ was

  abbrev took : List HeldPiece → TakenNote → AppSide
  took helds t = app_at x (record x.view { helds = helds; taken = x.view.taken ++ t ∷ [] })

  abbrev arrays_then : Arrays
  arrays_then = record board.arrays { notes = set board.arrays.notes a ring_then }

  rest-then : notes_of arrays_then a ≡ rest
  rest-then = ap (λ (r : Buffer NoteSlot). r.items) (get_or-set_same board.arrays.notes a ring_then (buffer [] 0) there)
      ∙ ap (λ (slots : List NoteSlot). drop 1 slots) found

  -- as a note was on its way, the application wasn't told the end
  no-end : x.view.ended ≡ true → ⊥
  no-end told = let phase = was-phased board a x x sound here in let none = (phase.ended told).1 in let some = is-next.way in cc

  IsSound-took : (t : TakenNote) (helds : List HeldPiece) → taken_of slot ≡ t
      → ((b : ℕ) → app_count b board.nic (took helds t) ≡ app_count b board.nic x)
      → ((b : ℕ) → IsFilledByOne b board.nic (set board.apps a (took helds t)))
      → AreShown (byte_of board.arrays) board.nic (set board.apps a (took helds t)) → AppLiesInOwn (took helds t).view
      → IsSound (record { arrays = arrays_then; nic = board.nic; apps = set board.apps a (took helds t) })
  IsSound-took t helds is same by_one shown own =
      let now = took helds t in
      let rest_before = was-at_rest board a x now sound here in
      let at_rest : IsAppAtRest now = assumption rest_before in
      let phase = was-phased board a x now sound here in
      let back = was-returns board a x now sound here in
      record {
        sizes = assumption (length-set board.arrays.notes a ring_then ∙ sound.sizes.notes, sound.sizes);
        cached = sound.cached;
        set = IsSet-app board a x now sound here refl refl at_rest;
        counted = AreCounted-app board a x now sound here arrays_then refl refl
            (λ b within. omega (arith, same b))
            (λ b within. refl)
            (λ k b ne app within. refl)
            (λ b past. omega (arith, same b))
            (λ b. assumption (was-returned board a x now sound here b));
        free = AreFreeOnce-app board a x now sound here _ at_rest same sound.free;
        relayed = AreRelayed-app board a x now sound here arrays_then refl
            (rw rest-then (Relayed-took board.nic x now.view t _ _ refl refl refl refl (rw is at was)))
            (λ k ne. ap (λ (r : Buffer NoteSlot). r.items) (get_or-set_other board.arrays.notes a k ring_then (buffer [] 0) ne))
            (λ k ne. refl)
            (All-set (IsRing board.arrays.places) board.arrays.notes a ring_then
            (IsRing-popped board.arrays.places (get_or board.arrays.notes a (buffer [] 0)) (sound.relayed.notes a (buffer [] 0) there)) sound.relayed.notes)
            sound.relayed.refills;
        returns = returns-app board a x now sound here (assumption back);
        flags = AreFlags-kept board a x now sound here arrays_then refl refl refl;
        kept = AreKept-app board a x now sound here _ _ refl (λ b. omega arith) sound.kept;
        due = AreDue-app board a x now sound here (was-given board a x now sound here)
            (let due = was-due board a x now sound here in simp (map-append, sum_by-append) (omega arith));
        filled = FillingsFit-same board.nic board.apps a x now here refl sound.filled;
        by_one = by_one;
        shown = shown;
        notes = sound.notes;
        own_buffers = OwnBuffers-app board a x now sound here own;
        judged = sound.judged;
        booked = AreBooked-kept board a x now sound here arrays_then refl refl refl refl refl refl refl;
        phased = ArePhased-app board a x now sound here (record {
          ended = λ told. absurd (no-end told);
          scrubbed = phase.scrubbed;
          left = λ gone. absurd (let none : ⊥ = cc in none);
        });
      }

  pub IsSound-took_note : slot.note.split ≡ true → IsSound
      (record { arrays = arrays_then; nic = board.nic; apps = set board.apps a (app_at x (took_note x.view slot.note)) })
  IsSound-took_note split =
      IsSound-took (record { note = slot.note; bytes = [] }) _
      (ap (λ c. record { note = slot.note; bytes = if c then [] else take slot.note.total slot.bytes }) split)
      (λ b. app_count-took_note b board.nic x slot.note is-next split)
      (λ b. IsFilledByOne-took_note b board.nic board.apps a x slot.note here is-next split (sound.by_one b))
      (AreShown-took_note (byte_of board.arrays) board.nic board.apps a x slot.note here is-next split sound.shown)
      (AppLiesInOwn-took_note x.view slot.note (pool-next board a x sound here slot.note is-next split) (was-own board a x x sound here))

  pub IsSound-took_linear : slot.note.split ≡ false → IsSound
      (record { arrays = arrays_then; nic = board.nic; apps = set board.apps a (app_at x (took_linear x.view slot.note (take slot.note.total slot.bytes))) })
  IsSound-took_linear unsplit =
      let bytes = take slot.note.total slot.bytes in
      IsSound-took (record { note = slot.note; bytes = bytes }) x.view.helds
      (ap (λ c. record { note = slot.note; bytes = if c then [] else bytes }) unsplit)
      (λ b. app_count-took_linear b board.nic x slot.note bytes is-next unsplit)
      (λ b. IsFilledByOne-took_linear b board.nic board.apps a x slot.note bytes here is-next unsplit (sound.by_one b))
      (AreShown-took_linear (byte_of board.arrays) board.nic board.apps a x slot.note bytes here is-next unsplit sound.shown)
      (assumption (was-own board a x x sound here))

  pub TookNote-took : slot.note.split ≡ true → TookNote x.view (took_note x.view slot.note) slot.note slot.note.place
  TookNote-took split = record {
    event = refl;
    place = refl;
    fields = split-next board a x sound here slot.note is-next split;
    some_bytes = some-next board a x sound here slot.note is-next split;
    lies = lies-next board a x sound here slot.note is-next split;
    of_pool = pool-next board a x sound here slot.note is-next split;
    apart = new-next board a x sound here slot.note is-next split;
  }

  pub TookLinear-took : slot.note.split ≡ false → TookLinear x.view (took_linear x.view slot.note (take slot.note.total slot.bytes)) slot.bytes slot.note
  TookLinear-took unsplit = record { event = refl; fields = linear-next board a x sound here slot.note is-next unsplit }
