-- The view changed by what the search gathered alone.
use Rattle.std.proofs.Common.{sym, refl}
use Rattle.card_feed.proofs.Turning.{prepared}
use Rattle.card_feed.proofs.preparing.nic_prepare.Goals as goal

pub returns-clause-knows : goal.returns-clause-knows
returns-clause-knows g c = λ ports split frames knows.
    let view = sym c.feed.view_is in
    prepared ports split frames _ _ _ _ _ c.counts_fit.ensures c.nic_gather-found.ensures.looks refl (rw view at knows)
