use Rattle.std.proofs.Common.{refl}
use Rattle.word_board.proofs.AtHandKept.{still-bare, still-entry}
use Rattle.word_board.proofs.kinds.dealing.deal_with.Goals as goal

pub free_stray-requires : goal.free_stray-requires
free_stray-requires c = record { entry = still-entry c.requires.entry c.if-look_user.ensures refl refl refl }

pub honour_entry-requires-clause-entry : goal.honour_entry-requires-clause-entry
honour_entry-requires-clause-entry c = still-entry c.requires.entry c.if-look_user.ensures refl refl refl

pub honour_entry-requires-clause-bare : goal.honour_entry-requires-clause-bare
honour_entry-requires-clause-bare c = still-bare c.requires.bare c.if-look_user.ensures refl refl
