-- No entry is on its way where each refill slot was seen free.
use Rattle.std.proofs.Common.{subst}
use Rattle.board_face.specs.NotNow.{HasWritten}
use Rattle.word_board.{specs.Board.{TheApp}, proofs.{AppKept.{kept-quieted}, Implied.{some-written}}}
use Rattle.word_board.proofs.app_seat.AppSeatAppFace.quiet.Goals as goal

pub invariant_of-self : goal.invariant_of-self
invariant_of-self c =
    let mine = c.self.inside.app.side in
    let hand = c.self.inside.hand in
    let setting = c.self.inside.app.board.setting in
    let slots = c.fall_quiet.new.app.side.inside.free_slots in
    let keeps = kept-quieted setting mine hand.note hand.entry hand.raw hand.loans.items hand.filled.items c.self.invariant
    c.fall_quiet.result slots in
    rw c.fall_quiet.ensures.event keeps

pub returns-clause-some : goal.returns-clause-some
returns-clause-some c unseen =
    subst (λ (s : TheApp). HasWritten s.side.view) c.self.view_is
    (some-written _ c.self.inside.app.side.view (c.fall_quiet.ensures.told unseen))
