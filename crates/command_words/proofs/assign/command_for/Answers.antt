-- The ports' rule comes last.
use Rattle.std.proofs.{Common.{◌≡◌, ◌∙◌, ap, rules}, lemmas.Result.{IfOk-weaker}}
use Rattle.clap.specs.Words.{rule_of, with_rule}
use Rattle.command_words.{specs.Asking.{raw_port}, proofs.Adding.{port_added}}
use Rattle.command_words.proofs.assign.command_for.Goals as goal

pub returns : goal.returns
returns c =
    let port_is : rule_of c.action-ports.result ≡ raw_port = search rules in
    IfOk-weaker c.arg.result _ _ (λ r added. added.shape (search rules) ∙ ap (with_rule _) port_is
    ∙ port_added _ _ _ c.in_ok-command_with_flags.ensures) c.arg.ensures
