use Rattle.std.proofs.Common.{◌∙◌, ap, refl, subst}
use Rattle.word_board.{specs.Board.{TheApp}, proofs.{AppKept.{raw-none, kept-saw}, Implied.{raw-pushed}}}
use Rattle.board_face.specs.{NotNow.{HasPushedRaw}, declared.views.app.AppLook.TheVariants.{RawOnItsWay}}
use Rattle.word_board.proofs.app_seat.AppSeatAppFace.settle.Goals as goal

pub returns-else-at_rest-clause-still : goal.returns-else-at_rest-clause-still
returns-else-at_rest-clause-still c = λ e.
    let hand = c.self.inside.hand in
    c.settle-at_rest.ensures.still
    (raw-none c.self.inside.app.board.setting c.self.inside.app.side hand.note hand.entry hand.raw c.self.invariant.slots
    (ap (λ s. s.side.view.settled) c.self.view_is ∙ e))

pub invariant_of-self-else-at_rest : goal.invariant_of-self-else-at_rest
invariant_of-self-else-at_rest c =
    let mine = c.self.inside.app.side in
    let hand = c.self.inside.hand in
    let setting = c.self.inside.app.board.setting in
    let keeps = kept-saw setting mine hand.note hand.entry hand.raw hand.loans.items hand.filled.items c.self.invariant RawOnItsWay in
    rw c.if-at_rest.ensures.event keeps

pub returns-else-at_rest-clause-raw : goal.returns-else-at_rest-clause-raw
returns-else-at_rest-clause-raw c = λ _.
    subst (λ (s : TheApp). HasPushedRaw s.side.view) c.self.view_is
    (raw-pushed _ c.self.inside.app.side.view (c.if-at_rest.ensures.told refl))
