-- Each round that did something goes on and brings the run nearer to its end; one in which nothing was done finds it over.
use Rattle.std.{proofs.Common.{◌<◌, length, subst}, specs.Prelude.{MatchBool}}
use Rattle.replay_turns.{specs.{Steps.{run_steps}, Stuck.{AreStuck}}, proofs.{AllLeft.{stuck-over}, StepsLeft.{still-of, left-falls}, Turns.{plays-through}, Unread.{plays-none}}}
use Rattle.replay_turns.proofs.waiting.play_waiting.Goals as goal

pub loop-taken-init : goal.loop-taken-init
loop-taken-init g c = plays-none _ c.requires.fits

pub loop-taken-preserved : goal.loop-taken-preserved
loop-taken-preserved g c = plays-through _ _ _ c.loop-taken.invariant c.waiting_round-next.ensures.plays

pub loop-taken-smaller : goal.loop-taken-smaller
loop-taken-smaller g c =
    let round = c.waiting_round-next.ensures in
    left-falls _ _ (still-of _ _ c.requires.plan c.loop-taken.invariant) round.plays
    (subst (λ did. MatchBool did (run_steps c.loop-taken.board c.loop-taken.run < run_steps c.waiting_round-next.result.0 c.waiting_round-next.new.run)
    (AreStuck c.waiting_round-next.result.0 c.waiting_round-next.new.run)) c.if-not-did.false round.by)

pub returns : goal.returns
returns g c =
    let round = c.waiting_round-next.ensures in
    record {
      over = stuck-over c.waiting_round-next.result.0 c.waiting_round-next.new.run (length c.waiting_round-next.new.shelves) round.plays.fits
          (subst (λ did. MatchBool did (run_steps c.loop-taken.board c.loop-taken.run < run_steps c.waiting_round-next.result.0 c.waiting_round-next.new.run)
          (AreStuck c.waiting_round-next.result.0 c.waiting_round-next.new.run)) c.if-not-did.true round.by);
      plays = plays-through _ _ _ c.loop-taken.invariant round.plays;
    }
