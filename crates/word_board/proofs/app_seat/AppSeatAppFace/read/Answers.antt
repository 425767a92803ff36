use Rattle.std.proofs.Common.{sym, subst}
use Rattle.board_face.specs.AppCalls.{HasLoan}
use Rattle.word_board.proofs.AppKept.{loan-lies, kept-read}
use Rattle.word_board.proofs.app_seat.AppSeatAppFace.read.Goals as goal

pub read_text-requires-clause-lies : goal.read_text-requires-clause-lies
read_text-requires-clause-lies c =
    let out = subst (λ s. HasLoan s.side.view c.args.loan.now) (sym c.self.view_is) c.requires.out in
    rw c.place.ensures
    (loan-lies c.self.inside.app.board.setting c.self.inside.app.side c.args.loan.now c.self.invariant.lies out)

pub invariant_of-self : goal.invariant_of-self
invariant_of-self c =
    let mine = c.self.inside.app.side in
    let hand = c.self.inside.hand in
    let setting = c.self.inside.app.board.setting in
    let keeps = kept-read setting mine hand.note hand.entry hand.raw hand.loans.items hand.filled.items c.self.invariant c.place.result
    c.args.from c.read_text.new.into in
    rw c.read_text.ensures.event keeps
