-- A turn of the card, or of an application.
use Rattle.std.{proofs.Common.{◌<◌, ◌≤◌, refl, sym, subst}, specs.Prelude.{MatchBool}}
use Rattle.replay_turns.{specs.{Following.{RoleMoves}, Rounds.{DidNothing}, Running.{PlaysBy, moment_at}, Steps.{run_steps}}, proofs.{Answering.{card-answers}, Following.{either}}}
use Rattle.replay_turns.proofs.Turns.{card-fits, card-runs}
use Rattle.run_account.specs.{Views.{ends_at, streams}, declared.run.Run.{Run}}
use Rattle.replay_turns.proofs.stepping.step.Goals as goal

pub returns-in-App : goal.returns-in-App
returns-in-App g c = record {
  plays =
      let m = streams g.S.Source.left g.S.Source.faults g.T.Shelf.kept g.T.Shelf.counts in
      subst (λ role. PlaysBy (RoleMoves role) (moment_at m c.args.source.now c.args.shelves.now c.args.board c.args.run.now)
      (moment_at m c.args.source.now c.app_turn.new.shelves c.app_turn.result.0 c.app_turn.new.run)) (sym c.in-App.is)
      (c.app_turn.ensures.plays c.args.source.now);
  answer = subst (λ role. MatchBool c.app_turn.result.1 (run_steps c.args.board c.args.run.now < run_steps c.app_turn.result.0 c.app_turn.new.run)
      (DidNothing role c.args.board c.app_turn.result.0 c.args.run.now c.app_turn.new.run)) (sym c.in-App.is) c.app_turn.ensures.answer;
}

pub returns-in-Card : goal.returns-in-Card
returns-in-Card g c =
    let m = streams g.S.Source.left g.S.Source.faults g.T.Shelf.kept g.T.Shelf.counts in
    let step = c.card_step-turn.ensures in
    let fits = c.requires.fits in
    let run_now : Run = record { feed = c.card_step-turn.new.feed; workers = c.args.run.now.workers } in
    record {
      plays = record {
        plays = record {
          fits = card-fits c.args.board c.card_step-turn.result.0 c.args.run.now run_now refl step.apps step.sound step.ready _ fits step.recorded;
          workers = refl;
          many = refl;
          room = step.room;
          runs = λ first plan runs.
              card-runs c.args.board c.card_step-turn.result.0 c.args.run.now run_now refl step.apps step.sound step.ready
              first (ends_at m c.args.source.now c.args.shelves.now) c.card_step-turn.new.source plan fits runs
              (step.turns first.source plan.ports.items plan.options.split runs.frames runs.feed)
              c.has_few_records.ensures;
        };
        by = subst (λ role. RoleMoves role (moment_at m c.args.source.now c.args.shelves.now c.args.board c.args.run.now)
            (moment_at m c.card_step-turn.new.source c.args.shelves.now c.card_step-turn.result.0 run_now)) (sym c.in-Card.is)
            (record {
              turns = step.turns;
              answer = either c.card_step-turn.result.1 _ _ step.answer;
              unread = step.source;
              ports = step.ports;
              apps = step.apps;
              workers = refl;
              shelves = refl;
              sound = step.sound;
            });
      };
      answer = subst (λ role. MatchBool c.card_step-turn.result.1 (run_steps c.args.board c.args.run.now < run_steps c.card_step-turn.result.0 run_now)
          (DidNothing role c.args.board c.card_step-turn.result.0 c.args.run.now run_now)) (sym c.in-Card.is)
          (card-answers c.args.board c.card_step-turn.result.0 c.args.run.now run_now refl step.apps c.card_step-turn.result.1 step.answer);
    }
