-- What an application's next note slot is, once it loaded words from there.
use Rattle.std.proofs.Common.{◌≡◌, ℕ, suc, ◌+◌, ◌<◌, List, [], ◌∷◌, ◌++◌, length, take, drop, set, ap, sym, ◌∙◌, arith, ⊎_elim, false, min, append_assoc}
use Rattle.std.{specs.Prelude.{if◌then◌else◌}, proofs.{Math.Seq.{drop-append_seam}, lemmas.Bool.{cases_lt}}}
use Rattle.std.proofs.lemmas.List.{take_all, take_more_set, length-set, length-append, length-drop, length-take-le, take-append-drop}
use Rattle.zr_kinds.specs.declared.place.Note.{Note}
use Rattle.board_face.specs.{SlotSteps.{seen_with, at_slot, side_took_note, side_took_linear}, declared.views.app.AppSide.{AppSide}}
use Rattle.word_rings.{specs.Slots.{note_fields, field_words, payload_width, note_of, linear_of, bytes_of_words, words_for}, proofs.NoteSlots.{note-front, bytes-front}}
use Rattle.ref_words.specs.Rings.{loaded_note, loaded_bytes}
use Rattle.word_board.specs.Board.{side_full_taken}

module _ (body : List ℕ) (k n : ℕ) (full : body ≡ 1 ∷ drop 1 body) where
  -- another word behind the flag
  behind : set body (1 + k) n ≡ 1 ∷ set (drop 1 body) k n
  behind =
      let e : 1 + k ≡ suc k = omega arith in
      ap (λ j. set body j n) e ∙ ap (λ b. set b (suc k) n) full

  pub still-full : set body (1 + k) n ≡ 1 ∷ drop 1 (set body (1 + k) n)
  still-full = behind ∙ ap (λ b. 1 ∷ drop 1 b) (sym behind)

  pub still-long : length (drop 1 (set body (1 + k) n)) ≡ length (drop 1 body)
  still-long = ap (λ b. length (drop 1 b)) behind ∙ length-set (drop 1 body) k n

  pub one-loaded : k < length (drop 1 body) → take k (drop 1 body) ++ n ∷ [] ≡ take (k + 1) (drop 1 (set body (1 + k) n))
  one-loaded within = sym (ap (λ b. take (k + 1) (drop 1 b)) behind ∙ take_more_set (drop 1 body) k n within)

-- The note that was taken is the one of the fields, with the first bytes of the payload, where as many words were loaded as these take.
module _ (fields payload : List ℕ) where
  front : (m t : ℕ) → length fields ≡ field_words → length payload ≡ payload_width → m ≡ min (words_for t) payload_width
      → take t (linear_of (1 ∷ (fields ++ take m payload))) ≡ take t (linear_of (1 ∷ (fields ++ payload)))
  front m t long whole is =
      ⊎_elim
      (λ (less : m < payload_width).
      let stored = length-take-le m payload (omega arith) in
      let both = length-append fields (take m payload) in
      sym (bytes-front t (fields ++ take m payload) (drop m payload) (omega arith) (omega arith))
      ∙ ap (λ ws. take t (linear_of (1 ∷ ws))) (append_assoc fields (take m payload) (drop m payload)
      ∙ ap (λ ws. fields ++ ws) (take-append-drop m payload)))
      (λ all. ap (λ ws. take t (linear_of (1 ∷ (fields ++ ws)))) (take_all m payload (omega arith)))
      (cases_lt m payload_width)

  behind-fields : length fields ≡ field_words → linear_of (1 ∷ (fields ++ payload)) ≡ bytes_of_words payload
  behind-fields long = ap (λ n. bytes_of_words (drop n (fields ++ payload))) (sym long) ∙ ap bytes_of_words (drop-append_seam fields payload)

pub linear-taken : (app : AppSide) (slot payload linear : List ℕ) (note : Note) (m : ℕ) → slot ≡ 1 ∷ drop 1 slot → length slot ≡ note_fields
    → length payload ≡ payload_width → note ≡ note_of slot → m ≡ min (words_for note.total) payload_width → linear ≡ bytes_of_words payload → note.split ≡ false
    → side_took_linear app (loaded_note (at_slot app (seen_with (drop 1 slot ++ take m payload))))
    (loaded_bytes (at_slot app (seen_with (drop 1 slot ++ take m payload)))) ≡ side_full_taken app note linear
linear-taken app slot payload linear note m full long whole read enough bytes split =
    let fields = drop 1 slot in
    let six : length fields ≡ field_words = omega (arith, length-drop 1 slot) in
    let is : loaded_note (at_slot app (seen_with (fields ++ take m payload))) ≡ note =
    note-front fields (take m payload) (omega arith) ∙ (ap note_of (sym full) ∙ sym read) in
    let taken : loaded_bytes (at_slot app (seen_with (fields ++ take m payload))) ≡ take note.total linear =
    ap (λ (n : Note). take n.total (linear_of (1 ∷ (fields ++ take m payload)))) is
    ∙ (front fields payload m note.total six whole enough
    ∙ ap (take note.total) (behind-fields fields payload six ∙ sym bytes)) in
    ap (λ (n : Note). side_took_linear app n (loaded_bytes (at_slot app (seen_with (fields ++ take m payload))))) is
    ∙ (ap (side_took_linear app note) taken
    ∙ sym (ap (λ c. if c then side_took_note app note else side_took_linear app note (take note.total linear)) split))
