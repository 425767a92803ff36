-- The outcome is told, and the board is in the card; or there was no memory for a board or an outcome.
use Rattle.std.proofs.Common.{inl, inr, refl, ◌∙◌, Some, arith}
use Rattle.top_call.{specs.StreamTheorem.{asked_by}, proofs.Statuses.{replays, same_plan}}
use Rattle.top_call.proofs.top.replay_alone.Goals as goal

pub returns-in-Ok : goal.returns-in-Ok
returns-in-Ok g c = record {
  replays = inl (replays _ _ c.finish.new.out _ (asked_by c.args.plan (Some c.args.turns.now))
      c.requires.plain same_plan c.in-Ok.ensures.plays.ran c.in-Ok.ensures.plays.recorded c.deref_mut.result.now
      c.deref_mut.ensures.value c.play_turns.new.shelves.len (omega (arith, c.play_turns.new.shelves.ok)) c.finish.ensures);
}

pub returns : goal.returns
returns g c = record {
  replays = inr (record {
    answer_is = c.number.ensures;
    card_is = c.in-Err.ensures.plays.lacks.1 ∙ c.requires.blank;
    out_is = refl;
    plan = c.args.plan;
    planned = same_plan;
    lacks = c.in-Err.ensures.plays.lacks.0;
  });
}
