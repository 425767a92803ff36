-- One application for each port so far.
use Rattle.std.{proofs.Common.{◌≡◌, ℕ, Some, length}, specs.List.{slice_get}}
use Rattle.run_account.specs.{Running.{IsNewWorker}, declared.run.Worker.{Worker}}
use Rattle.run_account.proofs.opening.new_workers.Given as goal

abbrev pub invariant-loop-app : goal.invariant-loop-app
invariant-loop-app l = record {
  many : length l.workers.items ≡ l.app;
  each : (a : ℕ) (w : Worker) → slice_get l.workers.items a ≡ Some w → IsNewWorker l.plan a w;
}
