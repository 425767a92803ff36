use Rattle.std.proofs.{Common.{rules, ◌≡◌, ℕ, ◌+◌, ◌<◌, List, [], length, take, drop, get_or, max, refl, ap, sym, ◌∙◌, subst, arith}, lemmas.List.{get_or_default}}
use Rattle.zr_kinds.specs.declared.place.Note.{Note}
use Rattle.board_face.specs.{SlotSteps.{next_slot, at_note, seen_with, side_sent_linear}, declared.views.parts.Slot.{Slot}}
use Rattle.word_rings.{specs.Slots.{field_words, payload_width, note_body, words_for}, proofs.NoteSlots.{note-blank, blank-later}}
use Rattle.ref_words.specs.Rings.{note_so_far}
use Rattle.word_board.{specs.Board.{TheNic}, proofs.{NoteFilled.{again, slot-is, filled-so, sent-linear-so}, AtHandKept.{still-writes-note}}}
use Rattle.word_board.proofs.kinds.notes.send_linear.Goals as goal

pub returns-clause-event : goal.returns-clause-event
returns-clause-event c =
    let card = c.args.card.now.side in
    let a : ℕ = c.args.app in
    let there : a < length card.inside.note_slots = subst (λ n. a < n) (sym c.if-not-look_note.ensures.slots) c.requires.slot.here in
    let slot = seen_with (take (field_words + c.max.result) (drop 1 c.note_words-body.result)) in
    let looked = c.if-not-look_note.ensures.event in
    let stored = c.store_words.ensures
    ∙ (ap (λ (me : TheNic). (record me { side = at_note me.side a slot })) looked ∙ ap (λ s. (record c.args.card.now { side = s })) (again card a there (seen_with []) slot)) in
    c.publish_linear.ensures
    ∙ (ap (λ (me : TheNic). (record me { side = side_sent_linear me.side a c.args.note c.args.bytes.now })) stored
    ∙ ap (λ side. (record c.args.card.now { side = side })) (sent-linear-so card a there slot c.args.note c.args.bytes.now))

pub store_words-requires-clause-slot : goal.store_words-requires-clause-slot
store_words-requires-clause-slot c = still-writes-note c.requires.slot c.if-not-look_note.ensures.event refl

pub publish_linear-requires-clause-note : goal.publish_linear-requires-clause-note
publish_linear-requires-clause-note c =
    let small : (i : ℕ) → get_or c.args.bytes.now i 0 < 256 = search rules in
    let setting = c.args.card.now.board.setting in
    let card = c.args.card.now.side in
    let a : ℕ = c.args.app in
    let there : a < length card.inside.note_slots = subst (λ n. a < n) (sym c.if-not-look_note.ensures.slots) c.requires.slot.here in
    let slot = seen_with (take (field_words + c.max.result) (drop 1 c.note_words-body.result)) in
    let looked = c.if-not-look_note.ensures.event in
    let stored = c.store_words.ensures
    ∙ (ap (λ (me : TheNic). (record me { side = at_note me.side a slot })) looked ∙ ap (λ s. (record c.args.card.now { side = s })) (again card a there (seen_with []) slot)) in
    let body = note_body c.args.note c.args.bytes.now 0 in
    let is : drop 1 c.note_words-body.result ≡ body = ap (drop 1) c.note_words-body.ensures.words in
    let count : ℕ = words_for (length c.args.bytes.now) in
    let m : ℕ = c.max.result in
    let most : m ≡ max count c.args.left = c.max.ensures ∙ ap (λ n. max n c.args.left) c.payload_words.ensures in
    let at = still-writes-note (still-writes-note c.requires.slot looked refl) c.store_words.ensures refl in
    record {
      at = record { here = at.here; within = at.within; next = at.next };
      fits = record {
        frame = search rules;
        flow = search rules;
        base = search rules;
        seq = search rules;
        at = search rules;
        total = search rules;
        buffer = search rules;
        offset = search rules;
        len = search rules;
        bytes = λ _ k d there. subst (λ n. n < 256) (get_or_default c.args.bytes.now k 0 d there) (small k);
      };
      seen = ap (λ (me : TheNic). (next_slot me.side.inside.note_slots a).seen) stored ∙ ap (λ (s : Slot). s.seen) (slot-is card a there slot);
      words = ap (λ (me : TheNic). note_so_far me.board.setting me.side a) stored
          ∙ (ap (λ ws. note_so_far setting (at_note card a (seen_with (take (field_words + m) ws))) a) is
          ∙ filled-so card a there setting body (field_words + m) m (long c.args.note c.args.bytes.now 0) refl
          (omega (arith, c.requires.left.few, c.requires.fields.few_bytes, c.requires.bytes)) (note-blank c.args.note c.args.bytes.now 0 m (omega arith))
          (blank-later c.args.left m _ (omega arith) c.requires.left.blank));
    }
  where
    long : (n : Note) (linear : List ℕ) (area : ℕ) → length (note_body n linear area) ≡ field_words + payload_width
    long n linear area = refl
