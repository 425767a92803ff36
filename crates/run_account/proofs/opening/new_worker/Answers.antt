-- It keeps what a new state keeps.
use Rattle.std.proofs.Common.{refl}
use Rattle.run_account.proofs.opening.new_worker.Goals as goal

pub returns : goal.returns
returns c = record {
  state_is = c.in_ok-state.ensures.state;
  left_is = refl;
  stands = c.in_ok-state.ensures.stands;
  shelved = c.in_ok-state.ensures.shelved;
}
