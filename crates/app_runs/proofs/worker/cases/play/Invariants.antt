use Rattle.app_runs.specs.Scene.{IsPlaying}
use Rattle.app_runs.proofs.worker.cases.play.Given as goal

abbrev pub invariant-loop-step : goal.invariant-loop-step
invariant-loop-step g l = IsPlaying l.board l.scene.card l.scene.st l.scene.left
