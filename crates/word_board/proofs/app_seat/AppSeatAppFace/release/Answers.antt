use Rattle.std.proofs.Common.{sym, subst}
use Rattle.board_face.specs.AppCalls.{HasHeld}
use Rattle.word_board.proofs.AppKept.{held-lies, kept-released}
use Rattle.word_board.proofs.app_seat.AppSeatAppFace.release.Goals as goal

pub release_piece-requires-clause-within : goal.release_piece-requires-clause-within
release_piece-requires-clause-within c =
    let out = subst (λ s. HasHeld s.side.view c.args.held) (sym c.self.view_is) c.requires.out in
    rw c.place.ensures
    (held-lies c.self.inside.app.board.setting c.self.inside.app.side c.args.held c.self.invariant.lies out).buffer

pub invariant_of-self : goal.invariant_of-self
invariant_of-self c =
    let mine = c.self.inside.app.side in
    let hand = c.self.inside.hand in
    let setting = c.self.inside.app.board.setting in
    let keeps = kept-released setting mine hand.note hand.entry hand.raw hand.loans.items hand.filled.items c.self.invariant c.place.result in
    rw c.release_piece.ensures keeps

pub release_piece-requires-clause-bare : goal.release_piece-requires-clause-bare
release_piece-requires-clause-bare c = record { set = c.self.invariant.set; hands = c.self.invariant.rests.hands }
