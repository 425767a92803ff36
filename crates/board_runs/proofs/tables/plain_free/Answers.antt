-- Hands with nothing are those of a board that was just opened.
use Rattle.std.proofs.Common.{arith}
use Rattle.board_runs.proofs.tables.plain_free.Goals as goal

pub plain_rows-board-requires : goal.plain_rows-board-requires
plain_rows-board-requires g c = rw (c.in_ok-board.ensures.board, c.requires.one) record { few = omega arith; card = c.new-card.ensures _; app = c.new-app.ensures _ 0 }
