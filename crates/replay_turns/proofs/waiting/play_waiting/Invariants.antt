-- What was played so far goes on with the run, which comes nearer to what it comes to at most.
use Rattle.run_account.specs.Views.{streams}
use Rattle.replay_turns.{specs.Running.{PlaysTurns, moment_at}, proofs.StepsLeft.{steps_left}}
use Rattle.replay_turns.proofs.waiting.play_waiting.Given as goal

abbrev pub invariant-loop-taken : goal.invariant-loop-taken
invariant-loop-taken g l =
    let m = streams g.S.Source.left g.S.Source.faults g.T.Shelf.kept g.T.Shelf.counts in
    PlaysTurns (moment_at m l.initial.source l.initial.shelves l.initial.board l.initial.run) (moment_at m l.source l.shelves l.board l.run)

abbrev pub decreases-loop-taken : goal.decreases-loop-taken
decreases-loop-taken g l = steps_left l.board l.run
