use Rattle.ref_words.proofs.CardLaw.{card-step}
use Rattle.ref_words.proofs.laws.steps.card_keeps_the_rule.Goals as goal

pub returns : goal.returns
returns c = λ setting words nic apps step rule may. card-step setting words nic apps rule step may
