-- What was played so far goes on with the run, and follows the letters.
use Rattle.std.proofs.Common.{map}
use Rattle.run_account.specs.Views.{streams}
use Rattle.replay_turns.specs.{Following.{Follows}, Running.{PlaysBy, moment_at}, Schedule.{role_of}}
use Rattle.replay_turns.proofs.playing.play_text.Given as goal

abbrev pub invariant-loop-letter : goal.invariant-loop-letter
invariant-loop-letter g l =
    let m = streams g.S.Source.left g.S.Source.faults g.T.Shelf.kept g.T.Shelf.counts in
    PlaysBy (Follows (map role_of l.yielded)) (moment_at m l.initial.source l.initial.shelves l.initial.board l.initial.run)
    (moment_at m l.source l.shelves l.board l.run)
