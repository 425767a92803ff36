-- One more option, and all of them at the end.
use Rattle.std.proofs.Common.{[]}
use Rattle.command_words.{specs.Asking.{raw_option}, proofs.Adding.{rule_added}}
use Rattle.command_words.proofs.assign.command_with_options.Goals as goal

pub loop-name-preserved : goal.loop-name-preserved
loop-name-preserved c =
    rule_added raw_option [] _ _ c.args.names.now c.loop-name.name-index _ c.loop-name-test.true c.in_ok-command.ensures c.loop-name.invariant
