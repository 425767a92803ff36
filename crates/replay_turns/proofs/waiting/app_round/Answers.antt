-- Each turn goes on.
use Rattle.std.proofs.{Common.{sym, arith}, lemmas.Bool.{true≢false}}
use Rattle.replay_turns.{specs.declared.role.Role.TheVariants.{App}, proofs.{Turns.{plays-through}, Unread.{answered-later, answered-rises, plays-none, rises-on}}}
use Rattle.replay_turns.proofs.waiting.app_round.Goals as goal

pub loop-app-init : goal.loop-app-init
loop-app-init g c = record { plays = plays-none _ c.requires.fits; later = omega arith; rises = λ is. absurd (true≢false (sym is)) }

pub loop-app-preserved : goal.loop-app-preserved
loop-app-preserved g c =
    let so_far = c.loop-app.invariant in
    let answer = c.step-next.ensures.answer in
    let later = answered-later (App c.loop-app.app) c.loop-app.board c.step-next.result.0 c.loop-app.run c.step-next.new.run c.step-next.result.1 answer in
    record {
      plays = plays-through _ _ _ so_far.plays c.step-next.ensures.plays.plays;
      later = let before = so_far.later in omega (arith, before, later);
      rises = rises-on _ _ _ c.loop-app.did c.step-next.result.1 so_far.later so_far.rises later (answered-rises c.step-next.result.1 _ _ answer);
    }
