-- Nobody has anything at a board that was just opened.
use Rattle.std.proofs.Common.{refl}
use Rattle.board_runs.proofs.Playing.{new_apps-idle}
use Rattle.board_runs.proofs.searches.run.Goals as goal

pub loop-step-init : goal.loop-step-init
loop-step-init g c = rw c.in_ok-board.ensures.board (record {
  card = record { owns = refl; pieces = refl };
  going = refl;
  idle = λ a. new_apps-idle _ 0 _ a;
})
