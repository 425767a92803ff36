-- What stood before a note came stands with it.
use Rattle.std.{proofs.Common.{◌≡◌, ℕ, ◌+◌, List, [], ◌∷◌, ◌++◌, Some, take, refl, sym, ap, subst, ◌∙◌, arith, inl, inr}, specs.Prelude.{slice_get, false, true}}
use Rattle.zr_kinds.specs.declared.{place.{Note.{Note}, Place.{Place}}, ring.Completion.{Completion}}
use Rattle.board_face.specs.{AppCalls.{TookNote, TookLinear}, AppEvents.{released}, declared.views.app.{HeldPiece.{HeldPiece}, TakenNote.{TakenNote}}}
use Rattle.board_face.specs.declared.views.app.AppView.{AppView}
use Rattle.flow_queues.specs.{declared.queues.{Lending.{Lending}, FlowQueue.{FlowQueue}}, Core.{total, LieApart, held_piece, over_kept, HasTokens, Stands}}
use Rattle.flow_queues.specs.{Pieces.{whole_piece}, Taking.{ChangesQueue, Receives, EntersPiece, TakesPiece, LosesPiece, EntersPayload, TakesPayload, LosesPayload}}
use Rattle.flow_queues.proofs.{Tokens.{is-released}, Took.{Took, is-took, taken_note, entered-tokens, entered-stands, kept-tokens}, NotesStay.{taken-last}}

module _ (number : ℕ) (was : List FlowQueue) (ring : List (Completion × Lending)) (read : List Lending) (old : AppView) (note : Note)
    (stands : Stands number was ring read old) where
  -- the note that came is that of the number
  last-there : (t : TakenNote) → slice_get (old.taken ++ t ∷ []) number ≡ Some t
  last-there t = ap (slice_get (old.taken ++ t ∷ [])) stands.notes ∙ taken-last old.taken t

  module _ (mid : AppView) (held : Place) (took : TookNote old mid note held) where
    took-piece : Took old mid note number held
    took-piece = is-took old mid note number held stands.tokens.apart stands.notes took

    module _ (new : AppView) (now : List FlowQueue) (index : List (ℕ × ℕ)) (i : ℕ) (change : ChangesQueue was now index note i)
        (some : EntersPiece mid new change.own.queue change.queue (whole_piece number held)) where
      piece-view : new ≡ record old { taken = old.taken ++ taken_note note ∷ []; helds = new.helds }
      piece-view = some.only.view ∙ ap (λ (v : AppView). record v { helds = new.helds }) took.event

      piece-moved : (f : HeldPiece → ℕ) → total f new.helds + over_kept f change.own.queue ≡ total f old.helds + over_kept f change.queue
      piece-moved f = omega (arith, some.only.moved f, took-piece.moved f)

      piece-tokens : HasTokens now ring read new
      piece-tokens = subst (λ (fs : List FlowQueue). HasTokens fs ring read new) (sym change.is)
          (entered-tokens number ring read old new (taken_note note) piece-view some.only.apart number refl was change.flows i change.own
          change.queue change.chosen change.within change.there stands piece-moved)

      piece-enters : Receives change.own.queue change.queue (record { number = number; note = note }) (λ t. t.note.split ≡ true)
          → Stands (number + 1) now ring read new
      piece-enters all = subst (λ (fs : List FlowQueue). Stands (number + 1) fs ring read new) (sym change.is)
          (entered-stands number ring read old new (taken_note note) piece-view some.only.apart number refl was change.flows i change.own
          change.queue change.chosen change.within change.there stands piece-moved change.base change.popped all.enters
          (all.notes (old.taken ++ taken_note note ∷ []) (taken_note note) (last-there (taken_note note)) took.fields.split))

    pub piece-stands : (new : AppView) (now : List FlowQueue) (index : List (ℕ × ℕ)) (i : ℕ) → TakesPiece mid new was now index note number held i
        → Stands (number + 1) now ring read new
    piece-stands new now index i takes = piece-enters new now index i takes.change takes.some takes.all

    pub piece-lost : (new : AppView) (now : List FlowQueue) (index_was index : List (ℕ × ℕ))
        → LosesPiece mid new was now index_was index note number held → HasTokens now ring read new
    piece-lost new now index_was index (inl none) =
        let gone = is-released mid took-piece.apart (held_piece (whole_piece number held)) took-piece.out in
        rw (none.0, none.2) (kept-tokens number was ring read old (released mid held) (taken_note note) (rw took.event refl) (rw took.event refl)
        gone.apart (λ f. omega (arith, gone.moved f, took-piece.moved f)) stands)
    piece-lost new now index_was index (inr part) = piece-tokens new now index part.place part.change part.some

  module _ (new : AppView) (linear : List ℕ) (took : TookLinear old new linear note) where
    abbrev came : TakenNote
    came = record { note = note; bytes = take note.total linear }

    came-apart : LieApart new
    came-apart = rw took.event (record { once = stands.tokens.apart.once; some = stands.tokens.apart.some })

    came-helds : new.helds ≡ old.helds
    came-helds = ap (λ (v : AppView). v.helds) took.event

    came-view : new ≡ record old { taken = old.taken ++ came ∷ []; helds = new.helds }
    came-view = rw took.event refl

    module _ (now : List FlowQueue) (index : List (ℕ × ℕ)) (i : ℕ) (change : ChangesQueue was now index note i)
        (some : EntersPayload change.own.queue change.queue note) where
      payload-moved : (f : HeldPiece → ℕ) → total f new.helds + over_kept f change.own.queue ≡ total f old.helds + over_kept f change.queue
      payload-moved f = omega (arith, ap (total f) came-helds, some.over f)

      payload-tokens : HasTokens now ring read new
      payload-tokens = subst (λ (fs : List FlowQueue). HasTokens fs ring read new) (sym change.is)
          (entered-tokens number ring read old new came came-view came-apart number refl was change.flows i change.own change.queue change.chosen
          change.within change.there stands payload-moved)

      payload-enters : Receives change.own.queue change.queue (record { number = number; note = note })
          (λ t. (t.note.split ≡ false) × (t.bytes ≡ take note.total linear)) → Stands (number + 1) now ring read new
      payload-enters all = subst (λ (fs : List FlowQueue). Stands (number + 1) fs ring read new) (sym change.is)
          (entered-stands number ring read old new came came-view came-apart number refl was change.flows i change.own change.queue change.chosen
          change.within change.there stands payload-moved change.base change.popped all.enters
          (all.notes (old.taken ++ came ∷ []) came (last-there came) (took.fields.split, refl)))

    pub payload-stands : (now : List FlowQueue) (index : List (ℕ × ℕ)) (payload : List ℕ) (i : ℕ) → take note.total linear ≡ payload
        → TakesPayload was now index note number payload i → Stands (number + 1) now ring read new
    payload-stands now index payload i is takes = payload-enters now index i takes.change takes.some
        (record { enters = takes.all.enters; notes = λ taken t there such. takes.all.notes taken t there (such.0, such.1 ∙ is) })

    pub payload-lost : (now : List FlowQueue) (index_was index : List (ℕ × ℕ)) → LosesPayload was now index_was index note
        → HasTokens now ring read new
    payload-lost now index_was index (inl none) = rw none.0 (kept-tokens number was ring read old new came
        (ap (λ (v : AppView). v.taken) came-view) (ap (λ (v : AppView). v.loans) came-view) came-apart (λ f. ap (total f) came-helds) stands)
    payload-lost now index_was index (inr part) = payload-tokens now index part.place part.change part.some
