-- Each round that did something goes on and brings the run nearer to its end; one in which nothing was done finds it over.
use Rattle.std.{proofs.Common.{◌<◌, suc, length, refl, subst}, specs.Prelude.{MatchBool}}
use Rattle.replay_turns.{specs.{Steps.{run_steps}, Stuck.{AreStuck}}, proofs.{AllLeft.{stuck-over}, Following.{follows-round}, StepsLeft.{still-of, left-falls}, Unread.{plays-none}}}
use Rattle.replay_turns.proofs.Turns.{plays-through}
use Rattle.replay_turns.proofs.playing.play_rounds.Goals as goal

pub loop-did-init : goal.loop-did-init
loop-did-init g c = record { plays = plays-none _ c.requires.fits; by = (0, refl) }

pub loop-did-preserved : goal.loop-did-preserved
loop-did-preserved g c =
    let so_far = c.loop-did.invariant in
    let round = c.play_round-next.ensures.plays in
    record {
      plays = plays-through _ _ _ so_far.plays round.plays;
      by = (suc so_far.by.0, follows-round (length c.args.run.now.workers.items) _ so_far.by.0 _ _ _ so_far.plays.workers so_far.by.1 round.by);
    }

pub loop-did-smaller : goal.loop-did-smaller
loop-did-smaller g c =
    let round = c.play_round-next.ensures in
    left-falls _ _ (still-of _ _ c.requires.plan c.loop-did.invariant.plays) round.plays.plays
    (subst (λ did. MatchBool did (run_steps c.loop-did.board c.loop-did.run < run_steps c.play_round-next.result.0 c.play_round-next.new.run)
    (AreStuck c.play_round-next.result.0 c.play_round-next.new.run)) c.if-not-did.false round.answer)

pub returns : goal.returns
returns g c =
    let round = c.play_round-next.ensures in
    let so_far = c.loop-did.invariant in
    record {
      over = stuck-over c.play_round-next.result.0 c.play_round-next.new.run (length c.play_round-next.new.shelves) round.plays.plays.fits
          (subst (λ did. MatchBool did (run_steps c.loop-did.board c.loop-did.run < run_steps c.play_round-next.result.0 c.play_round-next.new.run)
          (AreStuck c.play_round-next.result.0 c.play_round-next.new.run)) c.if-not-did.true round.answer);
      plays = record {
        plays = plays-through _ _ _ so_far.plays round.plays.plays;
        by = (suc so_far.by.0, follows-round (length c.args.run.now.workers.items) _ so_far.by.0 _ _ _ so_far.plays.workers so_far.by.1 round.plays.by);
      };
    }
