use Rattle.ref_words.proofs.RolesOver.{served, app-none, card-none, free-once, none-cached}
use Rattle.ref_words.proofs.laws.over.what_is_over.Goals as goal

pub returns : goal.returns
returns c = record {
  served = λ setting words nic apps a app rule here left. served setting words nic apps rule a app here left;
  card = λ setting words nic apps b rule over. card-none setting words nic apps rule over b;
  app = λ setting words nic apps a app b rule here over. app-none setting words nic apps rule a app here over.left over.lowered b;
  free = λ setting words nic apps b rule over all within. free-once setting words nic apps rule over all b within;
  reserves = λ setting words nic apps b rule past. none-cached setting words nic apps rule b past;
}
