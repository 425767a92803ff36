-- A whole run by rounds.
use Rattle.std.proofs.Common.{length, inl, refl, sym, ap, ◌∙◌, arith}
use Rattle.plain_board.specs.Board.{Board}
use Rattle.replay_turns.proofs.{Telling.{told}, WholeRun.{on-err, one-of, since, whole-lacks, whole-told}}
use Rattle.replay_turns.proofs.running.run_rounds.Goals as goal

pub returns-clause-ran : goal.returns-clause-ran
returns-clause-ran g c =
    let played = c.play_waiting-board.ensures in
    let tells = told c.play_waiting-board.new.run c.deref.result.now c.deref-2.result.now c.args.plan.now.ports.items c.in_ok-outcome.outcome
    c.deref.ensures.value c.deref-2.ensures.value c.in_ok-outcome.ensures in
    record {
      ran = whole-told c.args.source.now c.args.shelves.now.items _ c.args.shelves.now.len c.args.plan.now _ _
          (omega (arith, c.args.shelves.now.ok)) c.requires.shelves c.deref_mut.ensures.value c.in_ok-board.ensures.runs _ played.plays played.over _
          c.in_ok-outcome.outcome tells;
      leaves = record {
        sound = played.plays.fits.sound;
        recorded = played.plays.fits.recorded;
        room = played.plays.room ∙ ap (λ (b : Board). b.log.room) c.in_ok-board.ensures.opened.board_is;
      };
    }

pub returns-in_err-board-clause-lacks : goal.returns-in_err-board-clause-lacks
returns-in_err-board-clause-lacks g c = on-err _ _ (inl (record { source_is = refl; shelves_are = refl }))

pub returns-in_err-outcome-clause-lacks : goal.returns-in_err-outcome-clause-lacks
returns-in_err-outcome-clause-lacks g c = on-err _ _ (whole-lacks c.args.source.now c.args.shelves.now.items _ c.args.shelves.now.len
    c.args.plan.now _ _ (omega (arith, c.args.shelves.now.ok)) c.requires.shelves c.deref_mut.ensures.value c.in_ok-board.ensures.runs _
    c.play_waiting-board.ensures.plays c.play_waiting-board.ensures.over _)

pub play_waiting-board-requires : goal.play_waiting-board-requires
play_waiting-board-requires g c = record {
  fits = c.in_ok-board.ensures.fits (length c.deref_mut.result.now)
      (omega (arith, c.requires.shelves, c.args.shelves.now.ok, ap length c.deref_mut.ensures.value));
  plan = one-of c.args.source.now c.args.shelves.now.items _ c.args.shelves.now.len c.args.plan.now _ _ (omega (arith, c.args.shelves.now.ok))
      c.requires.shelves c.deref_mut.ensures.value c.in_ok-board.ensures.runs;
}

pub tell-requires : goal.tell-requires
tell-requires g c =
    let played = c.play_waiting-board.ensures in
    let runs = since c.args.source.now c.args.shelves.now.items _ c.args.shelves.now.len c.args.plan.now _ _ (omega (arith, c.args.shelves.now.ok))
    c.requires.shelves c.deref_mut.ensures.value c.in_ok-board.ensures.runs _ played.plays in
    record {
      closed = played.over.card;
      ports = runs.feed.knows.ports_are ∙ sym c.deref-2.ensures.value;
      many = ap length c.deref.ensures.value ∙ runs.many ∙ ap length (sym c.deref-2.ensures.value);
    }
