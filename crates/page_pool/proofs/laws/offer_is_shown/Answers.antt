use Rattle.page_pool.proofs.OffersShown.{offer_shown}
use Rattle.page_pool.proofs.laws.offer_is_shown.Goals as goal

pub returns : goal.returns
returns c = offer_shown
