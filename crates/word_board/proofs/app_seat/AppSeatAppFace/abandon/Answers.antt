-- The loan was counted, and isn't any more.
use Rattle.std.proofs.Common.{arith, rules}
use Rattle.board_face.specs.AppCalls.{HasLoan}
use Rattle.word_board.proofs.SparesKept.{loan-there, loan-counted, AppKeeps-abandoned}
use Rattle.word_board.proofs.app_seat.AppSeatAppFace.abandon.Goals as goal

pub lower-requires-clause-there : goal.lower-requires-clause-there
lower-requires-clause-there c =
    let out : HasLoan c.self.inside.app.side.view c.place-place.result = search rules in
    loan-there _ _ _ _ _ _ _ c.self.invariant _ out

pub lower-requires-clause-some : goal.lower-requires-clause-some
lower-requires-clause-some c =
    let out : HasLoan c.self.inside.app.side.view c.place-place.result = search rules in
    loan-counted _ _ _ _ _ _ _ c.self.invariant _ out

pub invariant_of-self : goal.invariant_of-self
invariant_of-self c =
    let out : HasLoan c.self.inside.app.side.view c.place-place.result = search rules in
    let did = c.abandon_loan.ensures in rw (did, c.lower.ensures.counts) (AppKeeps-abandoned _ _ _ _ _ _ _ c.self.invariant _ out)

pub abandon_loan-requires-clause-reserve : goal.abandon_loan-requires-clause-reserve
abandon_loan-requires-clause-reserve c = record { within = grind arith; own = grind arith }
