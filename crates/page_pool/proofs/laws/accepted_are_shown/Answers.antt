use Rattle.page_pool.proofs.OffersShown.{accepted_shown}
use Rattle.page_pool.proofs.laws.accepted_are_shown.Goals as goal

pub returns : goal.returns
returns c = accepted_shown
