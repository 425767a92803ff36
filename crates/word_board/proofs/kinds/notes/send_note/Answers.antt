use Rattle.std.proofs.{Common.{rules, true, false, ◌≡◌, ℕ, ◌+◌, ◌<◌, List, [], length, take, drop, map, refl, ap, sym, ◌∙◌, subst, arith}, lemmas.List.Elements.{All-contains, All-map}}
use Rattle.zr_kinds.specs.declared.place.{Note.{Note}, Place.{Place}}
use Rattle.area_layout.specs.Layout.{area_of_buffer, pool_buffers}
use Rattle.board_face.specs.{SlotSteps.{next_slot, at_note, seen_with, side_sent}, declared.views.{nic.PlacedText.{PlacedText}, parts.{Slot.{Slot}, Setting.{Setting}}}}
use Rattle.word_rings.{specs.Slots.{field_words, payload_width, note_body}, proofs.NoteSlots.{note-blank}}
use Rattle.ref_words.specs.Rings.{note_so_far}
use Rattle.word_board.{specs.Board.{TheNic}, proofs.{NoteFilled.{again, slot-is, filled-so, sent-so}, AtHandKept.{still-writes-note}}}
use Rattle.word_board.proofs.kinds.notes.send_note.Goals as goal

-- its piece lies in a pool buffer
pub area_of-area-requires : goal.area_of-area-requires
area_of-area-requires c =
    let card = c.args.card.now.side in
    let OfPool : Place → Type 0 = λ p. p.buffer < pool_buffers c.args.card.now.board.setting.layout in
    let mine : c.args.note.place.buffer < pool_buffers c.args.card.now.board.setting.layout =
    All-contains OfPool (map (λ (p : PlacedText). p.place) card.view.pieces) c.args.note.place
    (All-map OfPool (λ (p : PlacedText). p.place) card.view.pieces c.if-not-look_note.ensures.pieces) c.requires.out in
    omega (arith, mine, ap pool_buffers c.layout.ensures.value, ap (λ (s : Setting). pool_buffers s.layout) (c.map.ensures ∙ ap (λ (v : TheNic). v.board.setting) c.if-not-look_note.ensures.event))

pub returns-clause-event : goal.returns-clause-event
returns-clause-event c =
    let card = c.args.card.now.side in
    let a : ℕ = c.args.app in
    let there : a < length card.inside.note_slots = subst (λ n. a < n) (sym c.if-not-look_note.ensures.slots) c.requires.slot.here in
    let slot = seen_with (take (field_words + c.args.left) (drop 1 c.note_words-body.result)) in
    let looked = c.if-not-look_note.ensures.event in
    let stored = c.store_words.ensures
    ∙ (ap (λ (me : TheNic). (record me { side = at_note me.side a slot })) looked ∙ ap (λ s. (record c.args.card.now { side = s })) (again card a there (seen_with []) slot)) in
    c.publish_note.ensures
    ∙ (ap (λ (me : TheNic). (record me { side = side_sent me.side a c.args.note })) stored
    ∙ ap (λ side. (record c.args.card.now { side = side })) (sent-so card a there slot c.args.note))

pub store_words-requires-clause-slot : goal.store_words-requires-clause-slot
store_words-requires-clause-slot c = still-writes-note c.requires.slot c.if-not-look_note.ensures.event refl

pub publish_note-requires-clause-note : goal.publish_note-requires-clause-note
publish_note-requires-clause-note c =
    let setting = c.args.card.now.board.setting in
    let card = c.args.card.now.side in
    let a : ℕ = c.args.app in
    let there : a < length card.inside.note_slots = subst (λ n. a < n) (sym c.if-not-look_note.ensures.slots) c.requires.slot.here in
    let slot = seen_with (take (field_words + c.args.left) (drop 1 c.note_words-body.result)) in
    let looked = c.if-not-look_note.ensures.event in
    let stored = c.store_words.ensures
    ∙ (ap (λ (me : TheNic). (record me { side = at_note me.side a slot })) looked ∙ ap (λ s. (record c.args.card.now { side = s })) (again card a there (seen_with []) slot)) in
    let area : c.area_of-area.result ≡ area_of_buffer setting.layout c.args.note.place.buffer =
    c.area_of-area.ensures.value ∙ (ap (λ l. area_of_buffer l c.args.note.place.buffer) c.layout.ensures.value
    ∙ ap (λ (s : Setting). area_of_buffer s.layout c.args.note.place.buffer) (c.map.ensures ∙ ap (λ (v : TheNic). v.board.setting) looked)) in
    let body = note_body c.args.note [] (area_of_buffer setting.layout c.args.note.place.buffer) in
    let is : drop 1 c.note_words-body.result ≡ body = ap (drop 1) c.note_words-body.ensures.words ∙ ap (note_body c.args.note []) area in
    let m : ℕ = c.args.left in
    let at = still-writes-note (still-writes-note c.requires.slot looked refl) c.store_words.ensures refl in
    record {
      at = record { here = at.here; within = at.within; next = at.next };
      fits = record {
        frame = search rules;
        flow = search rules;
        base = search rules;
        seq = search rules;
        at = search rules;
        total = search rules;
        buffer = search rules;
        offset = search rules;
        len = search rules;
        bytes = λ none. absurd (let wrong : true ≡ false = sym c.requires.fields.split ∙ none in cc);
      };
      seen = ap (λ (me : TheNic). (next_slot me.side.inside.note_slots a).seen) stored ∙ ap (λ (s : Slot). s.seen) (slot-is card a there slot);
      words = ap (λ (me : TheNic). note_so_far me.board.setting me.side a) stored
          ∙ (ap (λ ws. note_so_far setting (at_note card a (seen_with (take (field_words + m) ws))) a) is
          ∙ filled-so card a there setting body (field_words + m) m (long c.args.note [] (area_of_buffer setting.layout c.args.note.place.buffer)) refl c.requires.left.few (note-blank c.args.note [] (area_of_buffer setting.layout c.args.note.place.buffer) m (omega arith)) c.requires.left.blank
          ∙ sym (ap (λ (me : TheNic). note_body c.args.note [] (area_of_buffer me.board.setting.layout c.args.note.place.buffer)) stored));
    }
  where
    long : (n : Note) (linear : List ℕ) (area : ℕ) → length (note_body n linear area) ≡ field_words + payload_width
    long n linear area = refl
