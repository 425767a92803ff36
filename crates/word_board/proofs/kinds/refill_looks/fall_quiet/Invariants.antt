-- The slots before this one were seen free.
use Rattle.std.specs.Prelude.{◌≡◌}
use Rattle.word_board.proofs.Quieting.{AreSeenFree}
use Rattle.word_board.proofs.kinds.refill_looks.fall_quiet.Given as goal

abbrev pub invariant-loop-slot : goal.invariant-loop-slot
invariant-loop-slot l =
    (l.app.board ≡ l.fn.app.board)
    × AreSeenFree l.fn.app.side l.app.side l.slot
