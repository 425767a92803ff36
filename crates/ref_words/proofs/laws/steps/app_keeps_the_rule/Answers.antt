use Rattle.ref_words.proofs.AppLaw.{app-step}
use Rattle.ref_words.proofs.laws.steps.app_keeps_the_rule.Goals as goal

pub returns : goal.returns
returns c = λ setting words nic apps app step rule here may. app-step setting words nic apps app rule here step may
