-- The frame is settled, or it stays at hand behind pending notes.
use Rattle.std.proofs.{Common.{◌≡◌, ◌∙◌, sym, ap, ltb, arith, false}, lemmas.Bool.{ltb-true, ltb-false}}
use Rattle.board_face.specs.{NicCalls.{apps_of}, declared.views.nic.NicView.{NicView}}
use Rattle.page_pool.specs.Pool.{pending_count}
use Rattle.card_feed.proofs.{PlayLemmas.{put_off-idle, dealt-steps, accepted-steps, refused-steps, next-pends}, Turning.{by-answer}}
use Rattle.card_feed.proofs.playing.offer_hand.Goals as goal

pub returns-in-Accepted-clause-ready : goal.returns-in-Accepted-clause-ready
returns-in-Accepted-clause-ready g c =
    let rest = c.offer.ensures.rest.view in
    record {
      fits = record {
        stands = c.offer.ensures.stands;
        apps = c.requires.fits.apps ∙ sym (ap (λ (v : NicView). apps_of v.setting) rest);
        on = λ _. ap (λ (v : NicView). v.ended) rest ∙ c.requires.fits.on (cc);
        ended = λ is. absurd (cc);
        over = λ is. absurd (cc);
        none = λ is. absurd (cc);
        sent = λ is. absurd (cc);
      };
      waits = λ some. absurd (some (cc));
    }

pub returns-in-NoRoom-clause-ready : goal.returns-in-NoRoom-clause-ready
returns-in-NoRoom-clause-ready g c =
    let rest = c.offer.ensures.rest.view in
    record {
      fits = record {
        stands = c.offer.ensures.stands;
        apps = c.requires.fits.apps ∙ sym (ap (λ (v : NicView). apps_of v.setting) rest);
        on = λ _. ap (λ (v : NicView). v.ended) rest ∙ c.requires.fits.on (cc);
        ended = λ is. absurd (cc);
        over = λ is. absurd (cc);
        none = λ is. absurd (cc);
        sent = λ is. absurd (cc);
      };
      waits = λ some. absurd (some (cc));
    }

pub returns-in-Accepted-clause-later : goal.returns-in-Accepted-clause-later
returns-in-Accepted-clause-later g c =
    let (o, is, accepts) = c.in-Accepted.ensures.offers in
    omega (arith, accepted-steps _ _ _ _ o c.requires.fits.stands accepts)

pub returns-in-Accepted-clause-answer : goal.returns-in-Accepted-clause-answer
returns-in-Accepted-clause-answer g c = λ some.
    let (o, is, accepts) = c.in-Accepted.ensures.offers in
    omega (arith, accepted-steps _ _ _ _ o c.requires.fits.stands accepts, some)

pub returns-in-NoRoom-clause-later : goal.returns-in-NoRoom-clause-later
returns-in-NoRoom-clause-later g c =
    let (o, is, refuses) = c.in-NoRoom.ensures.offers in
    omega (arith, refused-steps _ _ _ _ o c.requires.fits.stands _ _ refuses)

pub returns-in-NoRoom-clause-answer : goal.returns-in-NoRoom-clause-answer
returns-in-NoRoom-clause-answer g c = λ some.
    let (o, is, refuses) = c.in-NoRoom.ensures.offers in
    omega (arith, refused-steps _ _ _ _ o c.requires.fits.stands _ _ refuses, some)

pub returns-then-pending-clause-ready : goal.returns-then-pending-clause-ready
returns-then-pending-clause-ready g c =
    let (o, is, puts_off) = c.in-Busy.ensures.offers in
    let drain = c.nic_drain-dealt.ensures in
    record {
      fits = record {
        stands = drain.stands;
        apps = c.requires.fits.apps ∙ sym (ap (λ (v : NicView). apps_of v.setting) drain.drains.deals.view
            ∙ ap (λ (v : NicView). apps_of v.setting) c.offer.ensures.rest.view);
        on = λ _. ap (λ (v : NicView). v.ended) drain.drains.deals.view ∙ ap (λ (v : NicView). v.ended) c.offer.ensures.rest.view
            ∙ c.requires.fits.on (cc);
        ended = λ is. absurd (cc);
        over = λ is. absurd (cc);
        none = λ is. absurd (cc);
        sent = λ is. absurd (cc);
      };
      waits = λ _. omega (arith, next-pends _ _ puts_off.next, ap pending_count drain.pool);
    }

pub returns-else-pending-clause-ready : goal.returns-else-pending-clause-ready
returns-else-pending-clause-ready g c =
    let (o, is, puts_off) = c.in-Busy.ensures.offers in
    let drain = c.nic_drain-dealt.ensures in
    record {
      fits = record {
        stands = drain.stands;
        apps = c.requires.fits.apps ∙ sym (ap (λ (v : NicView). apps_of v.setting) drain.drains.deals.view
            ∙ ap (λ (v : NicView). apps_of v.setting) c.offer.ensures.rest.view);
        on = λ _. ap (λ (v : NicView). v.ended) drain.drains.deals.view ∙ ap (λ (v : NicView). v.ended) c.offer.ensures.rest.view
            ∙ c.requires.fits.on (cc);
        ended = λ is. absurd (cc);
        over = λ is. absurd (cc);
        none = λ is. absurd (cc);
        sent = λ is. absurd (cc);
      };
      waits = λ _. omega (arith, next-pends _ _ puts_off.next, ap pending_count drain.pool);
    }

pub returns-else-pending-clause-answer : goal.returns-else-pending-clause-answer
returns-else-pending-clause-answer g c =
    let (o, is, puts_off) = c.in-Busy.ensures.offers in
    let drain = c.nic_drain-dealt.ensures in
    by-answer (ltb 0 c.nic_drain-dealt.result) _ _
    (λ did _. dealt-steps _ _ _ _ _ _ _ c.requires.fits.stands c.offer.ensures.stands puts_off.sends drain.drains drain.pool false
    (ltb-true 0 c.nic_drain-dealt.result did))
    (λ none_dealt.
    let none : c.nic_drain-dealt.result ≡ 0 = omega (arith, ltb-false 0 c.nic_drain-dealt.result none_dealt) in
    let seen = c.in-Busy.ensures.pending puts_off.app puts_off.next in
    put_off-idle _ _ _ _ _ _ _ c.requires.fits.stands c.offer.ensures.stands puts_off.sends drain.drains drain.pool
    g.F.NicFace.tells _ _ c.args.intake.now false puts_off.app
    (omega (arith, c.if-pending.false, c.pending.ensures.value, c.pending-pending.ensures.value)) none puts_off.next seen.0 seen.1
    (drain.still none) drain.beside
    (drain.none none))
