use Rattle.plain_board.proofs.Reserves.{users-are_loans}
use Rattle.plain_board.proofs.laws.users_are_loans.Goals as goal

pub returns : goal.returns
returns c = users-are_loans
