-- The options, and the flags so far.
use Rattle.std.proofs.Common.{◌≡◌, ◌++◌, map, take}
use Rattle.clap.specs.Words.{app_of}
use Rattle.command_words.specs.Asking.{app_with, flag_rules, option_rules}
use Rattle.command_words.proofs.assign.command_with_flags.Given as goal

abbrev pub invariant-loop-flag : goal.invariant-loop-flag
invariant-loop-flag l = app_of l.command
    ≡ app_with (option_rules (map (λ n. n.now) l.names) ++ flag_rules (map (λ n. n.now) (take l.flag-index l.flags)))
