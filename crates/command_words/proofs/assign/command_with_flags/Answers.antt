-- One more flag, and all of them at the end.
use Rattle.command_words.{specs.Asking.{option_rules, raw_flag}, proofs.Adding.{rule_added, texts}}
use Rattle.command_words.proofs.assign.command_with_flags.Goals as goal

pub loop-flag-preserved : goal.loop-flag-preserved
loop-flag-preserved c =
    rule_added raw_flag (option_rules (texts c.args.names.now)) _ _ c.args.flags.now c.loop-flag.flag-index _ c.loop-flag-test.true
    c.in_ok-command-2.ensures c.loop-flag.invariant
