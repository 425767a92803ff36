-- So many words of the fields are loaded.
use Rattle.std.specs.Prelude.{◌≡◌, ◌∷◌, length, take, drop}
use Rattle.board_face.specs.SlotSteps.{seen_with, at_slot}
use Rattle.word_board.proofs.kinds.taken_notes.load_fields.Given as goal

abbrev pub invariant-loop-k : goal.invariant-loop-k
invariant-loop-k l =
    (l.app ≡ (record l.fn.app { side = at_slot l.fn.app.side (seen_with (take l.k (drop 1 l.body))) }))
    × (l.body ≡ 1 ∷ drop 1 l.body)
    × (length (drop 1 l.body) ≡ 6)
