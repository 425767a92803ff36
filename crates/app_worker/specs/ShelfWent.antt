-- What the calls of a shelf did.
use Rattle.std.specs.Prelude.{◌≡◌, ◌≢◌, ◌≤◌}
use Rattle.zr_io.specs.Moved.{ShelfCounts}
use Rattle.app_worker.specs.{State.{State}, Moves.{CountsOn}}

-- No call failed but where the answer says so, and what is written is what the appends took that went well.
pub record ShelfWent {A : Type 0} (failed : A) (was now : State) (calls calls_now : ShelfCounts) (answer : A) : Type 0 where
  pub later : calls.faults ≤ calls_now.faults
  pub still : answer ≢ failed → calls_now.faults ≡ calls.faults
  pub appended : CountsOn was.written now.written calls.appended calls_now.appended
