use Rattle.app_runs.specs.Scene.{IsPlaying}
use Rattle.app_runs.proofs.worker.turn_and_deal.Given as goal

abbrev pub invariant-loop : goal.invariant-loop
invariant-loop l = IsPlaying l.board l.scene.card l.scene.st l.scene.left
