-- The buffers below this one are scrubbed.
use Rattle.std.specs.Prelude.{◌≡◌}
use Rattle.word_board.proofs.Scrubs.{IsScrubbedBelow}
use Rattle.word_board.proofs.kinds.scrubs.scrub_counts.Given as goal

abbrev pub invariant-loop-buffer : goal.invariant-loop-buffer
invariant-loop-buffer l =
    (l.app.board ≡ l.fn.app.board)
    × IsScrubbedBelow l.fn.app.board.setting l.fn.app.side l.app.side l.buffer
