-- What is read so far, and then what the items that are left are read as.
use Rattle.std.proofs.Common.{◌≡◌}
use Rattle.run_check.{specs.Reading.{all_of, number_in_word}, proofs.AllOf.{all_from, onto, texts}}
use Rattle.run_check.proofs.words.all_numbers.Given as goal

abbrev pub invariant-loop-word : goal.invariant-loop-word
invariant-loop-word l = all_of number_in_word (texts l.words) ≡ onto l.numbers.items (all_from number_in_word l.words l.word-index)
