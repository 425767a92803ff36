use Rattle.std.proofs.Common.{refl}
use Rattle.word_board.proofs.AtHandKept.{entry-taken, still-bare}
use Rattle.word_board.proofs.kinds.dealing.next_entry.Goals as goal

pub free_void-requires-clause-entry : goal.free_void-requires-clause-entry
free_void-requires-clause-entry c = entry-taken c.requires.slot c.in-Some.ensures.event c.in-Some.ensures.slots

pub deal_with-requires-clause-entry : goal.deal_with-requires-clause-entry
deal_with-requires-clause-entry c = entry-taken c.requires.slot c.in-Some.ensures.event c.in-Some.ensures.slots

pub deal_with-requires-clause-bare : goal.deal_with-requires-clause-bare
deal_with-requires-clause-bare c = still-bare c.requires.bare c.in-Some.ensures.event refl refl
