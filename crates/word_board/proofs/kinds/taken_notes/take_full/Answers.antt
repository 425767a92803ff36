use Rattle.std.proofs.Common.{rules, ◌++◌, take, min, ap, ◌∙◌, refl}
use Rattle.board_face.specs.SlotSteps.{seen_with, at_slot, side_took_linear}
use Rattle.word_rings.specs.Slots.{payload_width}
use Rattle.ref_words.specs.Rings.{loaded_note, loaded_bytes}
use Rattle.word_board.{specs.Board.{TheApp}, proofs.{NoteLoaded.{linear-taken}, AtHandKept.{still-takes-note}}}
use Rattle.word_board.proofs.kinds.taken_notes.take_full.Goals as goal

pub returns-else-note-clause-event : goal.returns-else-note-clause-event
returns-else-note-clause-event c =
    let app = c.args.app.now.side in
    let payload = c.load_payload-payload.result in
    let many = c.min-many.result in
    c.free_linear.ensures.event
    ∙ (ap (λ (me : TheApp). (record me { side = side_took_linear me.side (loaded_note me.side) (loaded_bytes me.side) }))
    c.load_payload-payload.ensures
    ∙ (ap (λ (me : TheApp).
    let slot = seen_with (me.side.inside.note_slot.words ++ take many payload) in
    (record me { side = side_took_linear me.side (loaded_note (at_slot me.side slot)) (loaded_bytes (at_slot me.side slot)) }))
    c.load_fields-fields.ensures.event
    ∙ ap (λ side. (record c.args.app.now { side = side }))
    (linear-taken app c.load_fields-fields.result payload c.payload_read.new.linear c.note_read-note.result many c.load_fields-fields.ensures.full
    (search rules) (search rules) c.note_read-note.ensures (c.min-many.ensures ∙ ap (λ n. min n payload_width) c.payload_words.ensures) c.payload_read.ensures
    c.if-note.false)))

pub free_note-requires-clause-slot : goal.free_note-requires-clause-slot
free_note-requires-clause-slot c = still-takes-note c.requires.slot c.load_fields-fields.ensures.event refl

pub load_payload-payload-requires-clause-slot : goal.load_payload-payload-requires-clause-slot
load_payload-payload-requires-clause-slot c = still-takes-note c.requires.slot c.load_fields-fields.ensures.event refl

pub free_linear-requires-clause-slot : goal.free_linear-requires-clause-slot
free_linear-requires-clause-slot c = still-takes-note (still-takes-note c.requires.slot c.load_fields-fields.ensures.event refl) c.load_payload-payload.ensures refl
