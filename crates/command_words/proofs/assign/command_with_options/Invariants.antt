-- The options so far.
use Rattle.std.proofs.Common.{◌≡◌, map, take}
use Rattle.clap.specs.Words.{app_of}
use Rattle.command_words.specs.Asking.{app_with, option_rules}
use Rattle.command_words.proofs.assign.command_with_options.Given as goal

abbrev pub invariant-loop-name : goal.invariant-loop-name
invariant-loop-name l = app_of l.command ≡ app_with (option_rules (map (λ n. n.now) (take l.name-index l.names)))
