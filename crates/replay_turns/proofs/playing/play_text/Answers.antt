-- Each turn goes on, and is that of its letter.
use Rattle.std.proofs.Common.{refl, subst}
use Rattle.run_account.specs.Views.{streams}
use Rattle.replay_turns.{specs.{Following.{RoleMoves}, Running.{moment_at}}, proofs.{Following.{follows-letter}, Turns.{plays-through}, Unread.{plays-none}}}
use Rattle.replay_turns.proofs.playing.play_text.Goals as goal

pub loop-letter-init : goal.loop-letter-init
loop-letter-init g c = record { plays = plays-none _ c.requires.fits; by = refl }

pub loop-letter-preserved : goal.loop-letter-preserved
loop-letter-preserved g c =
    let m = streams g.S.Source.left g.S.Source.faults g.T.Shelf.kept g.T.Shelf.counts in
    record {
      plays = plays-through _ _ _ c.loop-letter.invariant.plays c.step.ensures.plays.plays;
      by = follows-letter c.loop-letter.yielded c.in-Some.letter _ _ _ c.loop-letter.invariant.by
          (subst (λ role. RoleMoves role (moment_at m c.loop-letter.source c.loop-letter.shelves c.loop-letter.board c.loop-letter.run)
          (moment_at m c.step.new.source c.step.new.shelves c.step.result.0 c.step.new.run)) c.role_of.ensures c.step.ensures.plays.by);
    }
