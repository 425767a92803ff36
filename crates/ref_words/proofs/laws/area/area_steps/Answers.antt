use Rattle.std.proofs.Common.{refl}
use Rattle.ref_words.proofs.laws.area.area_steps.Goals as goal

pub returns : goal.returns
returns c = record { place = λ nic own bytes. refl; fill = λ app own bytes making. refl }
