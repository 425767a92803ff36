-- Each buffer below this one was looked at, and is listed or cached. No reserve is cached.
use Rattle.std.{proofs.Common.{◌≡◌, ℕ, ◌+◌, ◌<◌, ◌≤◌, false, length, nat_eq, slice_index_or}, specs.Prelude.{count_by}}
use Rattle.area_layout.specs.Layout.{pool_buffers}
use Rattle.board_face.proofs.Tallies.{one_if}
use Rattle.word_board.proofs.board.WordBoard.close.Given as goal

abbrev pub invariant-loop-buffer : goal.invariant-loop-buffer
invariant-loop-buffer l = record {
  table : l.seat.table_id ≡ l.desk-inside.seat.table_id;
  number : l.seat.id ≡ l.desk-inside.seat.id;
  me : l.seat.me ≡ l.desk-inside.seat.me;
  many : length l.listed.items ≡ length l.desk-inside.listed.items;
  one : (b : ℕ) → b < l.buffer → count_by (nat_eq b) l.desk-inside.cache.items + one_if (slice_index_or l.listed.items b false) ≡ 1;
  none : (b : ℕ) → pool_buffers l.desk-inside.setting.layout ≤ b → count_by (nat_eq b) l.desk-inside.cache.items ≡ 0;
}
