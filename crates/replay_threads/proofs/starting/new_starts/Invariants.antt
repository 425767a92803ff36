-- What each application so far begins with.
use Rattle.std.{proofs.Common.{◌≡◌, ℕ, Some, length}, specs.List.{slice_get}}
use Rattle.replay_threads.specs.{Seated.{IsStart}, declared.seated.Start.{Start}}
use Rattle.replay_threads.proofs.starting.new_starts.Given as goal

abbrev pub invariant-loop-app : goal.invariant-loop-app
invariant-loop-app l = record {
  many : length l.starts.items ≡ l.app;
  each : (a : ℕ) (s : Start) → slice_get l.starts.items a ≡ Some s → IsStart l.plan a s;
}
