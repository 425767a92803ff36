-- The buffer that was taken is the last that the card owns.
use Rattle.std.proofs.lemmas.List.Elements.{Contains-push}
use Rattle.board_runs.proofs.callers.sends_pending.Goals as goal

pub place-piece-requires-clause-out : goal.place-piece-requires-clause-out
place-piece-requires-clause-out g c = rw (c.in-Some.ensures.view.event, c.in-Some.ensures.view.fresh) (Contains-push _ _)
