use Rattle.std.proofs.Common.{◌≡◌, ap, take, length, length-take, arith}
use Rattle.card_feed.specs.Hand.{offered_by}
use Rattle.card_feed.proofs.playing.offer.Goals as goal

pub returns-clause-offers : goal.returns-clause-offers
returns-clause-offers g c = (_, ap (λ bytes. offered_by c.args.route.now (take c.args.route.now.len bytes)) c.payload_in.ensures.payload, c.nic_offer.ensures.offers)

pub nic_offer-requires-clause-offer : goal.nic_offer-requires-clause-offer
nic_offer-requires-clause-offer g c =
    let size : length (take c.args.route.now.len c.payload_in.result.now) ≡ c.args.route.now.len = simp length-take
    (omega (arith, c.requires.hand.len, ap length c.payload_in.ensures.payload)) in
    record {
      open_is = c.requires.open;
      app = c.requires.hand.app;
      some = omega (arith, size, c.requires.hand.some);
      most = omega (arith, size, c.requires.hand.most);
    }
