use Rattle.std.proofs.Common.{sym, subst}
use Rattle.board_face.specs.AppCalls.{HasHeld}
use Rattle.word_board.proofs.AppKept.{held-lies, kept-lent}
use Rattle.word_board.proofs.app_seat.AppSeatAppFace.lend.Goals as goal

pub lend_held-requires-clause-within : goal.lend_held-requires-clause-within
lend_held-requires-clause-within c =
    let out = subst (λ s. HasHeld s.side.view c.args.held) (sym c.self.view_is) c.requires.out in
    rw c.place-place.ensures
    (held-lies c.self.inside.app.board.setting c.self.inside.app.side c.args.held c.self.invariant.lies out).buffer

pub raise-requires-clause-there : goal.raise-requires-clause-there
raise-requires-clause-there c =
    let out = subst (λ s. HasHeld s.side.view c.args.held) (sym c.self.view_is) c.requires.out in
    rw (c.place-place.ensures, c.self.invariant.tokens.many.0)
    (held-lies c.self.inside.app.board.setting c.self.inside.app.side c.args.held c.self.invariant.lies out).buffer

pub raise-requires-clause-fits : goal.raise-requires-clause-fits
raise-requires-clause-fits c =
    let mine = c.self.inside.app.side in
    let place = c.place-place.result in
    let out = subst (λ s. HasHeld s.side.view c.args.held) (sym c.self.view_is) c.requires.out in
    let lies = held-lies c.self.inside.app.board.setting mine place c.self.invariant.lies (rw c.place-place.ensures out) in
    rw (c.self.invariant.tokens.out place.buffer lies.buffer) c.lend_held.ensures.few_out

pub invariant_of-self : goal.invariant_of-self
invariant_of-self c =
    let mine = c.self.inside.app.side in
    let hand = c.self.inside.hand in
    let setting = c.self.inside.app.board.setting in
    let place = c.place-place.ensures in
    let out = subst (λ s. HasHeld s.side.view c.args.held) (sym c.self.view_is) c.requires.out in
    let keeps = kept-lent setting mine hand.note hand.entry hand.raw hand.loans.items hand.filled.items c.self.invariant
    c.place-place.result (rw place out) in
    rw c.lend_held.ensures.event (rw c.raise.ensures keeps)
