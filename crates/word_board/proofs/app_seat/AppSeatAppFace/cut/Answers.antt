use Rattle.std.proofs.Common.{sym, ap, subst, arith}
use Rattle.board_face.specs.AppCalls.{HasHeld}
use Rattle.word_board.proofs.AppKept.{held-lies, kept-cut}
use Rattle.word_board.proofs.app_seat.AppSeatAppFace.cut.Goals as goal

pub cut_piece-requires-clause-within : goal.cut_piece-requires-clause-within
cut_piece-requires-clause-within c =
    let me = c.self.inside.app.side in
    let out = subst (λ s. HasHeld s.side.view c.args.held) (sym c.self.view_is) c.requires.out in
    let lies = held-lies c.self.inside.app.board.setting me c.args.held c.self.invariant.lies out in
    rw c.place-place.ensures lies.buffer

pub overflow_add-rest : goal.overflow_add-rest
overflow_add-rest c = omega (arith, c.cut_piece.ensures.ends, ap (λ p. p.len) c.place-place.ensures, c.requires.rest)

pub invariant_of-self : goal.invariant_of-self
invariant_of-self c =
    let me = c.self.inside.app.side in
    let hand = c.self.inside.hand in
    let setting = c.self.inside.app.board.setting in
    let place = c.place-place.ensures in
    let out = subst (λ s. HasHeld s.side.view c.args.held) (sym c.self.view_is) c.requires.out in
    let keeps = kept-cut setting me hand.note hand.entry hand.raw hand.loans.items hand.filled.items c.self.invariant c.place-place.result
    c.args.at (rw place out) (rw place c.requires.rest) in
    rw c.cut_piece.ensures.event keeps
