-- A turn that isn't the last keeps what is poured.
use Rattle.app_runs.proofs.pouring.pours_by_turns.Goals.{in-Did, in-Idle}
use Rattle.app_runs.proofs.pouring.pours_by_turns.Goals as goal

pub loop-turn-preserved : goal.loop-turn-preserved
loop-turn-preserved g c =
    let (first, losses, stands) = c.loop-turn.invariant in
    elim c.match-turn.branch [
      | in-Did w ↦ (first, losses, w.in-Did.ensures.gives first losses stands)
      | in-Idle w ↦ (first, losses, w.in-Idle.ensures.gives first losses stands)
    ]
