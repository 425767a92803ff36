-- A turn of an application goes on with the run.
use Rattle.std.{proofs.Common.{◌≡◌, ◌≢◌, ◌<◌, Bool, true, false, not, length, get_or, inl, inr, refl, sym, ap, ◌∙◌, subst, arith}, specs.Prelude.{MatchBool}}
use Rattle.std.{proofs.lemmas.{List.{length-set}, Option.{slice_get_read, slice_get-get_or}}, specs.Vec.{with_item}}
use Rattle.plain_board.specs.Board.{side_of}
use Rattle.app_worker.specs.{Turns.{AnswersTurn}, declared.turn.Turn.TheVariants.{Finished}}
use Rattle.replay_turns.specs.{Rounds.{DidNothing}, Running.{RunFits}, Steps.{run_steps}, declared.role.Role.TheVariants.{App}}
use Rattle.replay_turns.proofs.{Answering.{gone-idle, app-idles, app-rises}, Rising.{turns-rise}, Turns.{app-fits, app-runs}, Unread.{plays-none}}
use Rattle.replay_turns.proofs.stepping.app_turn.Goals.{in-Finished, in_default, in-Idle, in_default-matches}
use Rattle.run_account.{specs.{Behind.{behind}, Views.{counts_at, ends_at, kept_at, streams}, declared.run.{Run.{Run}, Worker.{Worker}}}, proofs.Workers.{goes-on}}
use Rattle.replay_turns.proofs.stepping.app_turn.Goals as goal

pub returns-then-index : goal.returns-then-index
returns-then-index g c = record {
  plays = λ source. record {
    plays = plays-none _ c.requires.fits;
    by = (
      c.index.result.now,
      slice_get_read c.args.run.now.workers.items _ c.args.app c.index.result.now refl c.requires.app c.index.ensures,
      inl (c.if-index.true, refl),
    );
  };
  answer = gone-idle c.args.board c.args.run.now c.args.app c.index.result.now
      (slice_get_read c.args.run.now.workers.items _ c.args.app c.index.result.now refl c.requires.app c.index.ensures) c.if-index.true;
}

pub app_step-board-requires-clause-here : goal.app_step-board-requires-clause-here
app_step-board-requires-clause-here g c =
    (c.requires.fits.roles.worker c.args.app c.index.result.now
    (slice_get_read c.args.run.now.workers.items _ c.args.app c.index.result.now refl c.requires.app c.index.ensures)).here c.if-index.false

pub app_step-board-requires-clause-stands : goal.app_step-board-requires-clause-stands
app_step-board-requires-clause-stands g c =
    (c.requires.fits.roles.worker c.args.app c.index_mut-worker.result.now
    (slice_get_read c.args.run.now.workers.items _ c.args.app c.index_mut-worker.result.now refl c.requires.app c.index_mut-worker.ensures.value)).stands

pub returns : goal.returns
returns g c =
    let m = streams g.S.Source.left g.S.Source.faults g.T.Shelf.kept g.T.Shelf.counts in
    let step = c.app_step-board.ensures in
    let makes = step.makes in
    let turns = makes.turns in
    let only = step.only in
    let board = c.args.board in
    let board_now = c.app_step-board.result.0 in
    let old = (side_of board c.args.app).view in
    let new = (side_of board_now c.args.app).view in
    let w_was : Worker = c.index_mut-worker.result.now in
    let w_now : Worker = record { state = c.app_step-board.new.st; left = c.match-matches.worker } in
    let shelf = get_or c.args.shelves.now c.args.app c.index-shelves-app.result in
    let shelf_now = c.app_step-board.new.shelf in
    let is_was = slice_get_read c.args.run.now.workers.items _ c.args.app w_was refl c.requires.app c.index_mut-worker.ensures.value in
    let shelf_is = slice_get-get_or c.args.shelves.now c.args.app c.index-shelves-app.result
    (omega (arith, c.requires.app, c.requires.fits.shelves_enough)) in
    let is_left : w_now.left ≡ true → c.app_step-board.result.1 ≡ Finished = λ is. elim c.match-matches.branch [
      | in-Finished w ↦ w.in-Finished.is
      | in_default w ↦ let not : c.match-matches.worker ≡ false = w.worker-is in absurd (cc)
    ] in
    let not_left : w_now.left ≡ false → c.app_step-board.result.1 ≢ Finished = λ is same. elim c.match-matches.branch [
      | in-Finished w ↦ let left : c.match-matches.worker ≡ true = w.worker-is in absurd (cc)
      | in_default w ↦ w.in_default.not-Finished same
    ] in
    let is_gone : c.app_step-board.result.1 ≡ Finished → w_now.left ≡ true = λ is. elim c.match-matches.branch [
      | in-Finished w ↦ w.worker-is
      | in_default w ↦ absurd (w.in_default.not-Finished is)
    ] in
    let stays : c.app_step-board.result.1 ≢ Finished → w_now.left ≡ false = λ not. elim c.match-matches.branch [
      | in-Finished w ↦ absurd (not w.in-Finished.is)
      | in_default w ↦ w.worker-is
    ] in
    let here : w_was.left ≡ false =
    let there = slice_get_read c.args.run.now.workers.items _ c.args.app c.index.result.now refl c.requires.app c.index.ensures in
    let same : w_was ≡ c.index.result.now = cc in ap (λ (w : Worker). w.left) same ∙ c.if-index.false in
    let is_here = (c.requires.fits.roles.worker c.args.app c.index.result.now
    (slice_get_read c.args.run.now.workers.items _ c.args.app c.index.result.now refl c.requires.app c.index.ensures)).here c.if-index.false in
    let run_now : Run = record { feed = c.args.run.now.feed; workers = with_item c.args.run.now.workers c.args.app w_now } in
    let says : Bool → Type 0 = λ did. MatchBool did (run_steps board c.args.run.now < run_steps board_now run_now)
    (DidNothing (App c.args.app) board board_now c.args.run.now run_now) in
    let finished = λ (left : w_now.left ≡ true). subst
    (λ turn. AnswersTurn w_was.state w_now.state old new (g.T.Shelf.counts shelf).faults (g.T.Shelf.counts shelf_now).faults turn) (is_left left)
    turns.answer in
    record {
      plays = λ source. record {
        plays = record {
          fits = subst (λ n. RunFits board_now run_now n) (sym (length-set c.args.shelves.now c.args.app shelf_now))
              (app-fits board board_now c.args.run.now run_now c.args.app w_was w_now is_was refl refl only.card only.others only.many step.sound
              (length c.args.shelves.now) c.requires.fits
              (record { stands = turns.stands; here = λ left. turns.here (not_left left) ∙ is_here; gone = λ left. ((finished left).1, (finished left).2) }) step.recorded);
          workers = length-set c.args.run.now.workers.items c.args.app w_now;
          many = length-set c.args.shelves.now c.args.app shelf_now;
          room = only.room;
          runs = λ first plan runs.
              app-runs board board_now c.args.run.now run_now c.args.app w_was w_now is_was refl refl only.card only.others only.many step.sound
              first (ends_at m source c.args.shelves.now) plan shelf shelf_now shelf_is runs
              (λ was_goes. record {
                runs = goes-on (kept_at first c.args.app) (g.T.Shelf.kept shelf) (g.T.Shelf.kept shelf_now)
                    (counts_at first c.args.app) (g.T.Shelf.counts shelf) (g.T.Shelf.counts shelf_now) plan.options.how old new w_was w_now
                    c.app_step-board.result.1 was_goes.runs turns makes.went.later is_left
                    (record { fronts = makes.shows.fronts _; failed = makes.shows.failed _; whole = makes.shows.whole _; copies = makes.right.copies; counts = makes.right.counts })
                    (λ left. (finished left).2) makes.went.still makes.went.appended;
                came = (was_goes.came.0, was_goes.came.1, was_goes.came.2, behind _ _ was_goes.came.3 (c.app_step-board.result.1, turns));
              });
        };
        by = (
          w_was,
          is_was,
          inr (
            here,
            record {
              worker_now = w_now;
              shelf = shelf;
              shelf_now = shelf_now;
              shelf_at = shelf_is;
              answer = c.app_step-board.result.1;
              turns = turns;
              seen = step.told;
              leaves = is_gone;
              stays = stays;
              workers = refl;
              shelves = refl;
              feed = refl;
              source = refl;
              card = only.card;
              others = only.others;
              many = only.many;
              sound = step.sound;
            },
          ),
        );
      };
      answer = elim c.match-matches-2.branch [
        | in-Idle w ↦ subst (λ is. says (not is)) (sym w.matches-is)
            (app-idles board board_now c.args.run.now run_now c.args.app w_was w_now is_was refl refl only.card only.others
            _ _ _ _ c.app_step-board.result.1 turns here is_left _ w.in-Idle.is (step.told _ w.in-Idle.is))
        | in_default-matches w ↦ subst (λ is. says (not is)) (sym w.matches-is)
            (app-rises board board_now c.args.run.now run_now c.args.app w_was w_now is_was refl refl only.card only.others
            ((turns-rise w_was w_now old new _ _ _ _ c.app_step-board.result.1 turns here is_gone).1 w.in_default-matches.not-Idle))
      ];
    }
