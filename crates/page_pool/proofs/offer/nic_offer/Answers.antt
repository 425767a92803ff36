use Rattle.std.proofs.{Common.{◌≡◌, ◌∙◌, true, false, nat_le, length, sym, ap, arith}, lemmas.Bool.{lt-leb, le-leb}}
use Rattle.board_face.proofs.LookLemmas.{NicRose-later, NicLooksStay-trans}
use Rattle.page_pool.specs.{declared.offer.Verdict.TheVariants.{Accepted, NoRoom}, Pool.{PoolState}}
use Rattle.page_pool.proofs.Accepting.{flushed_all, next_told, none_is_next, LacksRoom-none, Accepts-either, Refuses-split, Accepts-split, PlacesSplit-looks}
use Rattle.page_pool.proofs.Accepting.{Offers-keep}
use Rattle.page_pool.proofs.offer.nic_offer.Goals as goal

pub returns-then-not-nic_flush-clause-pending : goal.returns-then-not-nic_flush-clause-pending
returns-then-not-nic_flush-clause-pending g c = next_told _ false _ _ c.if-not-nic_flush.ensures.answer

pub returns-then-offer-pool-clause-offers : goal.returns-then-offer-pool-clause-offers
returns-then-offer-pool-clause-offers g c =
    let first = c.nic_flush.ensures in
    let all = flushed_all _ _ _ _ first.sends c.if-not-nic_flush.ensures.answer first.stands in
    let split : c.pool.inside.split ≡ c.args.pool.now.split = ap (λ (p : PoolState). p.split) c.pool.view_is
    ∙ ap (λ (p : PoolState). p.split) all.pool in
    let few : nat_le (length c.args.offer.now.payload.now) c.args.pool.now.split ≡ true = le-leb _ _ (omega (arith, split, c.if-offer-pool.true)) in
    Accepts-either _ _ _ _ _ _ _ _ _ _ (rw (sym c.pool.view_is) at all) few c.send_short.ensures.answer

pub returns-in-Err-clause-offers : goal.returns-in-Err-clause-offers
returns-in-Err-clause-offers g c =
    let first = c.nic_flush.ensures in
    let all = flushed_all _ _ _ _ first.sends c.if-not-nic_flush.ensures.answer first.stands in
    let split : c.pool.inside.split ≡ c.args.pool.now.split = ap (λ (p : PoolState). p.split) c.pool.view_is
    ∙ ap (λ (p : PoolState). p.split) all.pool in
    let long : nat_le (length c.args.offer.now.payload.now) c.args.pool.now.split ≡ false = lt-leb _ _ (omega (arith, split, c.if-offer-pool.false)) in
    Refuses-split _ _ _ _ _ _ _ _ _ all long c.in-Err.ensures.answer

pub returns-in-Err-clause-pending : goal.returns-in-Err-clause-pending
returns-in-Err-clause-pending g c = λ app next. absurd (none_is_next _ app
    (LacksRoom-none _ _ _ _ _ _ _ c.if-not-nic_flush.ensures.answer c.in-Err.ensures.answer) next)

pub returns-clause-offers : goal.returns-clause-offers
returns-clause-offers g c =
    let first = c.nic_flush.ensures in
    let all = flushed_all _ _ _ _ first.sends c.if-not-nic_flush.ensures.answer first.stands in
    let split : c.pool.inside.split ≡ c.args.pool.now.split = ap (λ (p : PoolState). p.split) c.pool.view_is
    ∙ ap (λ (p : PoolState). p.split) all.pool in
    let long : nat_le (length c.args.offer.now.payload.now) c.args.pool.now.split ≡ false = lt-leb _ _ (omega (arith, split, c.if-offer-pool.false)) in
    Accepts-split _ _ _ _ _ _ _ _ _ all long c.in_default.ensures.answer c.nic_flush-2.ensures.sends

pub returns-clause-pending : goal.returns-clause-pending
returns-clause-pending g c = λ app next.
    let told = next_told _ _ _ _ c.nic_flush-2.ensures.answer app next in
    let before = NicLooksStay-trans _ _ _ c.nic_flush.ensures.sends.looks (PlacesSplit-looks _ _ _ _ _ c.in_default.ensures.answer) in
    (NicRose-later _ _ _ _ before told.0, told.1)

pub returns-then-offer-pool-clause-rest : goal.returns-then-offer-pool-clause-rest
returns-then-offer-pool-clause-rest g c = Offers-keep _ _ _ _ _ Accepted (returns-then-offer-pool-clause-offers g c)

pub returns-in-Err-clause-rest : goal.returns-in-Err-clause-rest
returns-in-Err-clause-rest g c = Offers-keep _ _ _ _ _ (NoRoom _ _) (returns-in-Err-clause-offers g c)

pub returns-clause-rest : goal.returns-clause-rest
returns-clause-rest g c = Offers-keep _ _ _ _ _ Accepted (returns-clause-offers g c)
