-- The rings were empty, and nothing is pending or a slot was in use: nothing changed.
use Rattle.std.proofs.{Common.{◌≡◌, ltb, false, arith}, lemmas.Bool.{ltb-true, ltb-false}}
use Rattle.card_feed.proofs.{PlayLemmas.{flushed-or, looked-idle, dealt-steps}, Turning.{by-answer}}
use Rattle.card_feed.proofs.playing.keep_up.Goals as goal

pub returns-else-pending-clause-answer : goal.returns-else-pending-clause-answer
returns-else-pending-clause-answer g c =
    let flush = c.nic_flush.ensures in
    let drain = c.nic_drain-dealt.ensures in
    by-answer (ltb 0 c.nic_drain-dealt.result) _ _
    (λ did. dealt-steps _ _ _ _ _ _ _ c.requires.stands flush.stands flush.sends drain.drains drain.pool false (ltb-true 0 c.nic_drain-dealt.result did))
    (λ none_dealt intake closed.
    let none : c.nic_drain-dealt.result ≡ 0 = omega (arith, ltb-false 0 c.nic_drain-dealt.result none_dealt) in
    looked-idle _ _ _ _ _ _ _ c.requires.stands flush.stands flush.sends drain.drains drain.pool
    _ g.F.NicFace.tells _ _ intake closed
    (omega (arith, c.if-pending.false, c.pending.ensures.value, c.pending-pending.ensures.value)) none
    (flushed-or c.nic_flush.result c.nic_flush.new.pool _ _ drain.pool flush.answer)
    (drain.still none) drain.beside
    (drain.none none))
