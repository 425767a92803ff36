-- The words so far are text.
use Rattle.std.{proofs.Common.{ℕ, List, ◌<◌, length, get_or}, specs.{Borrow.{Bor}, Str.{IsUtf8}}}
use Rattle.command_words.proofs.assign.known_texts.Given as goal

abbrev pub invariant-loop-word : goal.invariant-loop-word
invariant-loop-word l = (k : ℕ) (d : Bor (List ℕ)) → k < l.word-index → k < length l.words → IsUtf8 (get_or l.words k d).now
