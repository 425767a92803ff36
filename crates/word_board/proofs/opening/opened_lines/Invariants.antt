use Rattle.std.specs.Prelude.{◌≡◌, replicate}
use Rattle.word_board.proofs.opening.opened_lines.Given as goal

abbrev pub invariant-loop-line : goal.invariant-loop-line
invariant-loop-line l = l.lines.items ≡ replicate l._line (replicate 64 0)
