-- What was played so far goes on with the run, and further where something was done.
use Rattle.run_account.specs.Views.{streams}
use Rattle.replay_turns.specs.{Rounds.{PlaysOn}, Running.{moment_at}}
use Rattle.replay_turns.proofs.waiting.app_round.Given as goal

abbrev pub invariant-loop-app : goal.invariant-loop-app
invariant-loop-app g l =
    let m = streams g.S.Source.left g.S.Source.faults g.T.Shelf.kept g.T.Shelf.counts in
    PlaysOn l.did (moment_at m l.fn.source l.fn.shelves l.fn.board l.fn.run) (moment_at m l.source l.shelves l.board l.run)
