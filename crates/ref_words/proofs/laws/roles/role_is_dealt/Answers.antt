use Rattle.ref_words.proofs.Roles.{splits}
use Rattle.ref_words.proofs.laws.roles.role_is_dealt.Goals as goal

pub returns : goal.returns
returns c = λ setting roles views nic apps r v seated at fresh. splits setting roles views nic apps seated r v at fresh
