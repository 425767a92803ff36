-- The applications below this one have what their seats are to keep, and none was given.
use Rattle.std.{proofs.Common.{◌≡◌, ℕ, false, length, map}, specs.Prelude.{IfSome, None, is_none, replicate, slice_index_or}}
use Rattle.word_board.specs.Hands.{IsNew}
use Rattle.word_board.proofs.desk.Desk.new.Given as goal

abbrev pub invariant-loop-app : goal.invariant-loop-app
invariant-loop-app l = record {
  many : length l.hands.items ≡ l._app;
  fresh : (a : ℕ) → IfSome (slice_index_or l.hands.items a None)
      (λ hand. IsNew l.setting hand.note hand.entry hand.raw hand.loans.items hand.filled.items);
  untaken : map is_none l.hands.items ≡ replicate l._app false;
}
