use Rattle.std.proofs.Common.{length}
use Rattle.command_words.proofs.numbers.+are_distinct.Given as goal

abbrev pub decreases-are_distinct : goal.decreases-are_distinct
decreases-are_distinct l = length l.ports.now
