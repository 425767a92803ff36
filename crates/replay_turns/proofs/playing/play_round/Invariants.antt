-- What was played so far goes on with the run by its roles, and says what was done.
use Rattle.run_account.specs.Views.{streams}
use Rattle.replay_turns.{specs.{Following.{Follows, round_of}, Running.{PlaysTurns, moment_at}}, proofs.Rounds.{GoesRound}}
use Rattle.replay_turns.proofs.playing.play_round.Given as goal

abbrev pub invariant-loop-app : goal.invariant-loop-app
invariant-loop-app g l =
    let m = streams g.S.Source.left g.S.Source.faults g.T.Shelf.kept g.T.Shelf.counts in
    PlaysTurns (moment_at m l.initial.source l.initial.shelves l.initial.board l.initial.run) (moment_at m l.source l.shelves l.board l.run)
    × Follows (round_of l.app) (moment_at m l.fn.source l.fn.shelves l.fn.board l.fn.run) (moment_at m l.source l.shelves l.board l.run)
    × GoesRound l.fn.board l.board l.fn.run l.run l.did l.app
