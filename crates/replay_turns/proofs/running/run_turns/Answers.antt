-- A whole run.
use Rattle.std.proofs.Common.{[], length, inl, refl, sym, ap, subst, ◌∙◌, arith}
use Rattle.plain_board.specs.Board.{Board}
use Rattle.replay_turns.{specs.Schedule.{AreTurns}, proofs.{Sweeping.{each-swept}, Telling.{told}}}
use Rattle.replay_turns.proofs.WholeRun.{on-err, one-of, since, text-by, text-fits, text-plan, text-plays, whole-few, whole-lacks, whole-told}
use Rattle.replay_turns.proofs.running.run_turns.Goals as goal

pub returns-clause-ran : goal.returns-clause-ran
returns-clause-ran g c =
    let text = c.play_text-board.ensures in
    let rounds = c.play_rounds-board.ensures in
    let size = c.args.shelves.now.ok in
    let lent = c.deref_mut.ensures.value in
    let tells = told c.play_rounds-board.new.run c.deref.result.now c.deref-2.result.now c.args.plan.now.ports.items c.in_ok-outcome.outcome
    c.deref.ensures.value c.deref-2.ensures.value c.in_ok-outcome.ensures in
    let plays = text-plays c.args.source.now c.args.shelves.now.items _ c.args.shelves.now.len _ _ _ _ (omega (arith, size)) lent
    c.deref_mut-2.ensures.value text.plays _ rounds.plays.plays in
    let follows = text-by c.args.source.now c.args.shelves.now.items _ c.args.shelves.now.len _ _ _ _ (omega (arith, size)) lent
    c.deref_mut-2.ensures.value text.plays _ c.args.plan.now c.args.turns.now c.in_ok-board.ensures.opened text.by rounds.plays rounds.over
    c.in_ok-outcome.outcome tells in
    record {
      alone = record {
        ran = whole-told c.args.source.now c.args.shelves.now.items _ c.args.shelves.now.len c.args.plan.now _ _ (omega (arith, size))
            c.requires.shelves lent c.in_ok-board.ensures.runs _ plays rounds.over _ c.in_ok-outcome.outcome tells;
        leaves = record {
          sound = rounds.plays.plays.fits.sound;
          recorded = rounds.plays.plays.fits.recorded;
          room = plays.room ∙ ap (λ (b : Board). b.log.room) c.in_ok-board.ensures.opened.board_is;
        };
      };
      follows = follows _;
      swept = each-swept _ _ _ _ _ _ (follows []) (whole-few c.args.source.now c.args.shelves.now.items _ c.args.shelves.now.len c.args.plan.now _ _
          (omega (arith, size)) c.requires.shelves lent c.in_ok-board.ensures.runs _ plays rounds.over [] c.in_ok-outcome.outcome tells);
    }

pub returns-in_err-board-clause-lacks : goal.returns-in_err-board-clause-lacks
returns-in_err-board-clause-lacks g c = on-err _ _ (inl (record { source_is = refl; shelves_are = refl }))

pub returns-in_err-outcome-clause-lacks : goal.returns-in_err-outcome-clause-lacks
returns-in_err-outcome-clause-lacks g c =
    let plays = text-plays c.args.source.now c.args.shelves.now.items _ c.args.shelves.now.len _ _ _ _ (omega (arith, c.args.shelves.now.ok))
    c.deref_mut.ensures.value c.deref_mut-2.ensures.value c.play_text-board.ensures.plays _ c.play_rounds-board.ensures.plays.plays in
    on-err _ _ (whole-lacks c.args.source.now c.args.shelves.now.items _ c.args.shelves.now.len c.args.plan.now _ _
    (omega (arith, c.args.shelves.now.ok)) c.requires.shelves c.deref_mut.ensures.value c.in_ok-board.ensures.runs _ plays
    c.play_rounds-board.ensures.over _)

pub play_text-board-requires : goal.play_text-board-requires
play_text-board-requires g c = record {
  fits = c.in_ok-board.ensures.fits (length c.deref_mut.result.now)
      (omega (arith, c.requires.shelves, c.args.shelves.now.ok, ap length c.deref_mut.ensures.value));
  turns = subst (λ apps. AreTurns apps c.args.turns.now) (sym c.in_ok-board.ensures.many) c.requires.turns;
}

pub play_rounds-board-requires : goal.play_rounds-board-requires
play_rounds-board-requires g c = record {
  fits = text-fits c.args.source.now c.args.shelves.now.items _ c.args.shelves.now.len _ _ _ _ (omega (arith, c.args.shelves.now.ok))
      c.deref_mut.ensures.value c.deref_mut-2.ensures.value c.play_text-board.ensures.plays;
  plan = text-plan c.args.source.now c.args.shelves.now.items _ c.args.shelves.now.len _ _ _ _ (omega (arith, c.args.shelves.now.ok))
      c.deref_mut.ensures.value c.deref_mut-2.ensures.value c.play_text-board.ensures.plays
      (one-of c.args.source.now c.args.shelves.now.items _ c.args.shelves.now.len c.args.plan.now _ _ (omega (arith, c.args.shelves.now.ok))
      c.requires.shelves c.deref_mut.ensures.value c.in_ok-board.ensures.runs);
}

pub tell-requires : goal.tell-requires
tell-requires g c =
    let plays = text-plays c.args.source.now c.args.shelves.now.items _ c.args.shelves.now.len _ _ _ _ (omega (arith, c.args.shelves.now.ok))
    c.deref_mut.ensures.value c.deref_mut-2.ensures.value c.play_text-board.ensures.plays _ c.play_rounds-board.ensures.plays.plays in
    let runs = since c.args.source.now c.args.shelves.now.items _ c.args.shelves.now.len c.args.plan.now _ _ (omega (arith, c.args.shelves.now.ok))
    c.requires.shelves c.deref_mut.ensures.value c.in_ok-board.ensures.runs _ plays in
    record {
      closed = c.play_rounds-board.ensures.over.card;
      ports = runs.feed.knows.ports_are ∙ sym c.deref-2.ensures.value;
      many = ap length c.deref.ensures.value ∙ runs.many ∙ ap length (sym c.deref-2.ensures.value);
    }
