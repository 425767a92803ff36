-- The rings were empty and a slot was in use: nothing changed.
use Rattle.std.proofs.{Common.{◌≡◌, ◌∙◌, ap, ltb, arith}, lemmas.Bool.{ltb-true, ltb-false}}
use Rattle.board_face.specs.declared.views.nic.NicView.{NicView}
use Rattle.card_feed.proofs.{PlayLemmas.{put_off-idle, dealt-steps}, Turning.{by-answer}}
use Rattle.card_feed.proofs.playing.finish.Goals as goal

pub returns-else-pending-clause-answer : goal.returns-else-pending-clause-answer
returns-else-pending-clause-answer g c =
    let answer = c.if-nic_flush.ensures.answer in
    let drain = c.nic_drain-dealt.ensures in
    by-answer (ltb 0 c.nic_drain-dealt.result) _ _
    (λ did. dealt-steps _ _ _ _ _ _ _ c.requires.stands c.nic_flush.ensures.stands c.nic_flush.ensures.sends drain.drains drain.pool c.args.closed.now
    (ltb-true 0 c.nic_drain-dealt.result did))
    (λ none_dealt intake.
    let none : c.nic_drain-dealt.result ≡ 0 = omega (arith, ltb-false 0 c.nic_drain-dealt.result none_dealt) in
    put_off-idle _ _ _ _ _ _ _ c.requires.stands c.nic_flush.ensures.stands c.nic_flush.ensures.sends drain.drains drain.pool
    g.F.NicFace.tells _ _ intake c.args.closed.now answer.0
    (omega (arith, c.if-pending.false, c.pending.ensures.value, c.pending-pending.ensures.value)) none answer.1 answer.2 answer.3
    (drain.still none) drain.beside
    (drain.none none))

pub returns-then-pending-clause-closed : goal.returns-then-pending-clause-closed
returns-then-pending-clause-closed g c = rw c.requires.on (ap (λ (v : NicView). v.ended) c.nic_drain-dealt.ensures.drains.deals.view
    ∙ ap (λ (v : NicView). v.ended) c.nic_flush.ensures.sends.view ∙ c.requires.open)

pub returns-else-pending-clause-closed : goal.returns-else-pending-clause-closed
returns-else-pending-clause-closed g c = rw c.requires.on (ap (λ (v : NicView). v.ended) c.nic_drain-dealt.ensures.drains.deals.view
    ∙ ap (λ (v : NicView). v.ended) c.nic_flush.ensures.sends.view ∙ c.requires.open)
