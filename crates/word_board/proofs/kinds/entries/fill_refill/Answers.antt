use Rattle.std.proofs.Common.{refl}
use Rattle.word_board.proofs.AtHandKept.{still-writes-entry}
use Rattle.word_board.proofs.kinds.entries.fill_refill.Goals as goal

pub store_refill-requires-clause-slot : goal.store_refill-requires-clause-slot
store_refill-requires-clause-slot c = still-writes-entry c.requires.slot c.if-not-look_refill.ensures.event refl

pub store_refill-requires-2-clause-slot : goal.store_refill-requires-2-clause-slot
store_refill-requires-2-clause-slot c = still-writes-entry (still-writes-entry c.requires.slot c.if-not-look_refill.ensures.event refl) c.store_refill.ensures refl
