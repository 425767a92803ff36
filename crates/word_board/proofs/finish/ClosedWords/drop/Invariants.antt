-- The lines below this one are taken out, and the others are there.
use Rattle.std.{proofs.Common.{◌≡◌, ℕ, ◌<◌, ◌≤◌, true, false, get_or}, specs.Slots.{slots_filled, slots_len}}
use Rattle.word_board.proofs.finish.ClosedWords.drop.Given as goal

abbrev pub invariant-loop-line : goal.invariant-loop-line
invariant-loop-line l = record {
  many : slots_len l.closed.slots ≡ slots_len l.initial.closed.slots;
  there : (k : ℕ) → l.line ≤ k → k < slots_len l.closed.slots → get_or (slots_filled l.closed.slots) k false ≡ true;
  taken : (k : ℕ) → k < l.line → get_or (slots_filled l.closed.slots) k false ≡ false;
}
