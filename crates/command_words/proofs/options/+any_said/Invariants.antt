use Rattle.std.proofs.Common.{length}
use Rattle.command_words.proofs.options.+any_said.Given as goal

abbrev pub decreases-any_said : goal.decreases-any_said
decreases-any_said l = length l.names.now
