-- A turn of an application goes on with its part of the run.
use Rattle.std.proofs.Common.{◌≡◌, ◌≢◌, true, false, ◌∙◌, subst}
use Rattle.app_worker.specs.{Turns.{AnswersTurn}, declared.turn.Turn.TheVariants.{Finished}}
use Rattle.run_account.{specs.{declared.run.Worker.{Worker}, Behind.{behind}}, proofs.Workers.{goes-on}}
use Rattle.replay_threads.proofs.seated.take_turn.Goals.{in-Finished, in_default}
use Rattle.replay_threads.proofs.seated.take_turn.Goals as goal

pub returns : goal.returns
returns g c =
    let step = c.app_turn-turn.ensures in
    let makes = step.makes in
    let turns = makes.turns in
    let own = c.args.own.now in
    let result = c.app_turn-turn.result in
    let old = own.seat.side.view in
    let new = c.app_turn-turn.new.face.side.view in
    let w_now : Worker = record { state = c.app_turn-turn.new.st; left = c.match-matches.own } in
    let shelf = own.shelf in
    let shelf_now = c.app_turn-turn.new.shelf in
    let is_left : w_now.left ≡ true → result ≡ Finished = λ is. elim c.match-matches.branch [
      | in-Finished w ↦ w.in-Finished.is
      | in_default w ↦ let not : c.match-matches.own ≡ false = w.own-is in absurd (cc)
    ] in
    let not_left : w_now.left ≡ false → result ≢ Finished = λ is same. elim c.match-matches.branch [
      | in-Finished w ↦ let left : c.match-matches.own ≡ true = w.own-is in absurd (cc)
      | in_default w ↦ w.in_default.not-Finished same
    ] in
    let finished = λ (left : w_now.left ≡ true). subst
    (λ turn. AnswersTurn own.worker.state w_now.state old new (g.T.Shelf.counts shelf).faults (g.T.Shelf.counts shelf_now).faults turn) (is_left left) turns.answer in
    record {
      goes = record {
        board = step.beside;
        app = turns.goes.moves.same.1;
        fits = record {
          side = record {
            stands = turns.stands;
            here = λ left. turns.here (not_left left) ∙ c.requires.fits.side.here c.requires.here;
            gone = λ left. ((finished left).1, (finished left).2);
          };
        };
        runs = λ first count how runs. goes-on first (g.T.Shelf.kept shelf) (g.T.Shelf.kept shelf_now) count (g.T.Shelf.counts shelf)
            (g.T.Shelf.counts shelf_now) how old new own.worker w_now result runs turns makes.went.later is_left
            (record { fronts = makes.shows.fronts _; failed = makes.shows.failed _; whole = makes.shows.whole _; copies = makes.right.copies; counts = makes.right.counts })
            (λ left. (finished left).2) makes.went.still makes.went.appended;
        comes = λ plan first count comes. (comes.0, comes.1, comes.2, behind _ _ comes.3 (result, turns));
      };
      takes = ((result, turns), c.came_of.ensures);
    }
