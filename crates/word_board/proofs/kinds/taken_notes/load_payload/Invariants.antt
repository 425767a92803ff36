-- So many words behind the fields are loaded.
use Rattle.std.specs.Prelude.{◌≡◌, ◌++◌, length, take}
use Rattle.board_face.specs.SlotSteps.{seen_with, at_slot}
use Rattle.word_rings.specs.Slots.{payload_width}
use Rattle.word_board.proofs.kinds.taken_notes.load_payload.Given as goal

abbrev pub invariant-loop-k : goal.invariant-loop-k
invariant-loop-k l =
    let app = l.fn.app.side in
    (l.app ≡ (record l.fn.app { side = at_slot app (seen_with (app.inside.note_slot.words ++ take l.k l.payload)) }))
    × (length l.payload ≡ payload_width)
