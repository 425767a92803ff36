use Rattle.std.proofs.Common.{rules}
use Rattle.word_board.proofs.AtHandKept.{looked-taken, still-takes-note}
use Rattle.word_board.proofs.kinds.taken_notes.poll.Goals as goal

pub seek_note-requires : goal.seek_note-requires
seek_note-requires c = record { slot = search (rules, still-takes-note, looked-taken) }

pub take_full-note-requires-clause-slot : goal.take_full-note-requires-clause-slot
take_full-note-requires-clause-slot c = search (rules, still-takes-note, looked-taken)
