-- The ports so far, and then those of the words that are left.
use Rattle.std.proofs.Common.{◌≡◌, ◌++◌, drop, map, option_map}
use Rattle.command_words.specs.Numbers.{all_ports}
use Rattle.command_words.proofs.numbers.all_ports.Given as goal

abbrev pub invariant-loop-word : goal.invariant-loop-word
invariant-loop-word l =
    all_ports (map (λ w. w.now) l.words) ≡ option_map (λ rest. l.ports.items ++ rest) (all_ports (map (λ w. w.now) (drop l.word-index l.words)))
