-- An application that has taken no turn: its part of the run begins.
use Rattle.std.proofs.Common.{◌≡◌, ℕ, List, Option, ap, subst}
use Rattle.board_face.specs.{Opened.{new_app}, declared.views.{app.AppSide.{AppSide}, parts.Setting.{Setting}}}
use Rattle.card_feed.specs.{Plan.{TakesTurns}, declared.plan.Plan.{Plan}}
use Rattle.run_account.{specs.{Behind.{begins}, Running.{IsNewWorker, WorkerRuns}}, proofs.{Leaving.{behaves-so}, NewWorkers.{new-fits, new-runs}}}
use Rattle.replay_threads.specs.{declared.seated.Turning.{Turning}, Seated.{BeginsLane}}
use Rattle.replay_threads.specs.declared.seated.Seated.TheVariants as seated
use Rattle.zr_io.specs.Moved.{ShelfCounts}

module _ {T : Type 0} (kept : T → ℕ → Option (List ℕ)) (losses : T → ShelfCounts) where
  pub turning-begins : (plan : Plan) (setting : Setting) (a : ℕ) (own : Turning T) → own.seat.side ≡ new_app setting a
      → TakesTurns plan × IsNewWorker plan a own.worker → BeginsLane kept losses plan (seated.Turning own)
  turning-begins plan setting a own is start =
      let view = ap (λ (s : AppSide). s.view) is in
      record {
        fits = record { side = new-fits plan setting a own.seat.side.view own.worker view start.1 };
        runs = subst (λ how. WorkerRuns (kept own.shelf) (kept own.shelf) (losses own.shelf) (losses own.shelf) how own.seat.side.view own.worker)
            (behaves-so plan start.0) (new-runs plan setting a own.seat.side.view own.worker view start.1 (kept own.shelf) (losses own.shelf));
        comes = rw (start.1.state_is, view) (start.0, setting, a, begins);
      }
