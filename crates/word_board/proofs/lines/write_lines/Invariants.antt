use Rattle.std.proofs.Common.{◌≡◌, ◌+◌, ◌/◌, ◌-◌, length}
use Rattle.word_board.proofs.LinesOut.{HasWritten}
use Rattle.word_board.proofs.lines.write_lines.Given as goal

abbrev pub invariant-loop-done : goal.invariant-loop-done
invariant-loop-done l = record {
  table : l.seat.table_id ≡ l.words.shared.table_id;
  number : l.seat.id ≡ l.initial.seat.id;
  so_far : HasWritten l.first ((length l.bytes + 63) / 64) l.bytes l.initial.seat.me.0 l.done l.seat.me;
}

abbrev pub decreases-loop-done : goal.decreases-loop-done
decreases-loop-done l = length l.bytes - l.done
