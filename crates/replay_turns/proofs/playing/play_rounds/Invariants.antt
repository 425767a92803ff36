-- What was played so far goes on with the run by whole rounds, which comes nearer to what it comes to at most.
use Rattle.std.proofs.Common.{length}
use Rattle.run_account.specs.Views.{streams}
use Rattle.replay_turns.{specs.{Following.{FollowsRounds}, Running.{PlaysBy, moment_at}}, proofs.StepsLeft.{steps_left}}
use Rattle.replay_turns.proofs.playing.play_rounds.Given as goal

abbrev pub invariant-loop-did : goal.invariant-loop-did
invariant-loop-did g l =
    let m = streams g.S.Source.left g.S.Source.faults g.T.Shelf.kept g.T.Shelf.counts in
    PlaysBy (FollowsRounds (length l.initial.run.workers.items)) (moment_at m l.initial.source l.initial.shelves l.initial.board l.initial.run)
    (moment_at m l.source l.shelves l.board l.run)

abbrev pub decreases-loop-did : goal.decreases-loop-did
decreases-loop-did g l = steps_left l.board l.run
