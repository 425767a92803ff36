-- A turn of the card in which it reads nothing.
use Rattle.std.proofs.Common.{length, refl}
use Rattle.replay_turns.proofs.{Answering.{card-later}, Turns.{card-fits}, Unread.{card-waits}}
use Rattle.run_account.specs.declared.run.Run.{Run}
use Rattle.replay_turns.proofs.waiting.keep_up.Goals as goal

pub returns-clause-plays : goal.returns-clause-plays
returns-clause-plays g c ends fits =
    let step = c.card_keeps_up.ensures in
    let run_now : Run = record { feed = c.card_keeps_up.new.feed; workers = c.args.run.now.workers } in
    record {
      fits = card-fits c.args.board c.card_keeps_up.result c.args.run.now run_now refl step.apps step.sound step.ready (length ends.shelves) fits step.recorded;
      workers = refl;
      many = refl;
      room = step.room;
      runs = λ first plan runs.
          card-waits c.args.board c.card_keeps_up.result c.args.run.now run_now refl step.apps step.sound step.ready step.steps first ends plan fits runs;
    }

pub returns-clause-later : goal.returns-clause-later
returns-clause-later g c =
    let run_now : Run = record { feed = c.card_keeps_up.new.feed; workers = c.args.run.now.workers } in
    card-later c.args.board c.card_keeps_up.result c.args.run.now run_now refl c.card_keeps_up.ensures.apps c.card_keeps_up.ensures.later
