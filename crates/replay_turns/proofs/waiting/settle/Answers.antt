-- Nothing was done, or the card kept up and each application had a turn.
use Rattle.std.proofs.Common.{arith}
use Rattle.run_account.specs.Views.{ends_at}
use Rattle.replay_turns.proofs.Turns.{plays-through}
use Rattle.replay_turns.proofs.waiting.settle.Goals as goal

pub app_round-requires : goal.app_round-requires
app_round-requires g c = record {
  fits = (c.keep_up-board.ensures.plays (ends_at _ c.args.source.now c.args.shelves.now) c.requires.fits).fits;
}

pub returns : goal.returns
returns g c =
    let kept = c.keep_up-board.ensures in
    let turns = c.app_round.ensures in
    record {
      plays = plays-through _ _ _ (kept.plays (ends_at _ c.args.source.now c.args.shelves.now) c.requires.fits) turns.plays;
      later = let before = kept.later in let after = turns.later in omega (arith, before, after);
      rises = λ did. let before = kept.later in let after = turns.rises did in omega (arith, before, after);
    }
