-- It has left where it says so.
use Rattle.std.proofs.Common.{rules}
use Rattle.app_runs.proofs.worker.app_part.Goals as goal

pub returns-clause-gone : goal.returns-clause-gone
returns-clause-gone c finished =
    let said = rw finished at c.app_turn-turn.ensures.makes.turns.answer in
    search (rules, said.1)
