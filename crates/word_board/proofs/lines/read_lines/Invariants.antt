use Rattle.std.proofs.Common.{◌≡◌, ◌-◌, length}
use Rattle.word_board.{specs.Lines.{held}, proofs.LinesOut.{HasReadSo}}
use Rattle.word_board.proofs.lines.read_lines.Given as goal

abbrev pub invariant-loop-done : goal.invariant-loop-done
invariant-loop-done l = record {
  table : l.seat.table_id ≡ l.words.shared.table_id;
  number : l.seat.id ≡ l.initial.seat.id;
  so_far : HasReadSo l.first l.skip (held l.initial.seat.me) (length l.initial.into) l.initial.seat.me.0 l.line l.from l.done l.into l.seat.me;
}

abbrev pub decreases-loop-done : goal.decreases-loop-done
decreases-loop-done l = length l.initial.into - l.done
