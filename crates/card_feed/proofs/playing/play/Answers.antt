-- The card is closed and drains, or it offers the frame at hand.
use Rattle.std.proofs.{Common.{◌≡◌, ap, inr, ltb, arith}, lemmas.Bool.{ltb-true, ltb-false}}
use Rattle.card_feed.{specs.{Hand.{at_hand}, Turns.{drains, offers}, Parts.{feed_of}}, proofs.{PlayLemmas.{drained-idle, drained-steps, answer-then}, Turning.{by-answer}}}
use Rattle.card_feed.proofs.playing.play.Goals as goal

pub returns-then-closed-clause-plays : goal.returns-then-closed-clause-plays
returns-then-closed-clause-plays g c = drains c.if-closed.true c.nic_drain.result c.nic_drain.ensures.drains
    (ap (λ p. feed_of c.args.intake.now p c.args.closed.now) c.nic_drain.ensures.pool)

pub returns-then-closed-clause-answer : goal.returns-then-closed-clause-answer
returns-then-closed-clause-answer g c =
    let drain = c.nic_drain.ensures in
    by-answer (ltb 0 c.nic_drain.result) _ _
    (λ did _. drained-steps _ _ _ _ _ drain.drains drain.pool c.args.closed.now (ltb-true 0 c.nic_drain.result did))
    (λ none_dealt.
    let none : c.nic_drain.result ≡ 0 = omega (arith, ltb-false 0 c.nic_drain.result none_dealt) in
    inr (drained-idle _ _ _ _ _ drain.drains drain.pool g.F.NicFace.tells _ c.args.intake.now c.args.closed.now c.if-closed.true none
    (drain.still none) (drain.none none)))

pub offer_hand-requires-clause-fits : goal.offer_hand-requires-clause-fits
offer_hand-requires-clause-fits g c = rw c.if-closed.false at c.requires.fits

pub returns-in-Some-clause-ready : goal.returns-in-Some-clause-ready
returns-in-Some-clause-ready g c = rw c.if-closed.false c.offer_hand.ensures.ready

pub returns-in-Some-clause-answer : goal.returns-in-Some-clause-answer
returns-in-Some-clause-answer g c = rw c.if-closed.false (answer-then c.offer_hand.result _ _ _ _ c.offer_hand.ensures.answer
    (λ rises waits. rises (waits (λ none. let is = c.in-Some.is in cc)))
    (λ idle. inr idle))

pub returns-in-Some-clause-plays : goal.returns-in-Some-clause-plays
returns-in-Some-clause-plays g c =
    offers c.if-closed.false _ (ap (λ h. at_hand h c.args.intake.now.bytes.items) c.in-Some.is) (rw c.if-closed.false c.offer_hand.ensures.offers)
