use Rattle.std.proofs.Common.{refl}
use Rattle.word_board.proofs.AtHandKept.{still-entry}
use Rattle.word_board.proofs.kinds.closing.honour_entry.Goals as goal

pub free_honoured-requires-clause-entry : goal.free_honoured-requires-clause-entry
free_honoured-requires-clause-entry c =
    let back = still-entry c.requires.entry c.give_back-last.ensures refl refl refl in
    still-entry back c.list_last_by_card.ensures refl refl back.in_hand
