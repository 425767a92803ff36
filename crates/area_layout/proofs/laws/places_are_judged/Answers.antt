use Rattle.area_layout.proofs.Words.{place_judged}
use Rattle.area_layout.proofs.laws.places_are_judged.Goals as goal

pub returns : goal.returns
returns c = place_judged
