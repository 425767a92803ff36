-- So many words of the note are stored.
use Rattle.std.specs.Prelude.{◌≡◌, take, drop}
use Rattle.board_face.specs.SlotSteps.{seen_with, at_note}
use Rattle.word_board.proofs.kinds.notes.store_words.Given as goal

abbrev pub invariant-loop-k : goal.invariant-loop-k
invariant-loop-k l =
    l.card ≡ (record l.fn.card { side = at_note l.fn.card.side l.app (seen_with (take l.k (drop 1 l.body))) })
