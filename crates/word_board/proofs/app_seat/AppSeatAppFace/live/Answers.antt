-- The count that is kept of the buffer's loans tells whether one is out there.
use Rattle.std.{proofs.Common.{◌∙◌, ap, subst, length, get_or, false, arith}, specs.Prelude.{◌↔◌, nat_lt, IsTrue}}
use Rattle.board_face.specs.AppCalls.{IsLive}
use Rattle.word_board.{specs.Board.{TheApp}, proofs.SparesKept.{live-tells, none-beyond}}
use Rattle.word_board.proofs.app_seat.AppSeatAppFace.live.Goals as goal

pub returns-in-Some : goal.returns-in-Some
returns-in-Some c =
    let found = c.in-Some.ensures.lookup.3 in
    subst (λ (s : TheApp). IsTrue (nat_lt 0 c.in-Some.field-0.now) ↔ IsLive s.side.view c.args.buffer) c.self.view_is
    (live-tells _ _ _ _ _ _ _ c.self.invariant c.args.buffer _ (found.1 0 ∙ ap (λ counts. get_or counts c.args.buffer 0) c.deref.ensures.value)
    (omega (arith, found.0, ap length c.deref.ensures.value)))

pub returns-in-None : goal.returns-in-None
returns-in-None c =
    subst (λ (s : TheApp). IsTrue false ↔ IsLive s.side.view c.args.buffer) c.self.view_is
    (none-beyond _ _ _ _ _ _ _ c.self.invariant c.args.buffer (omega (arith, c.in-None.ensures.lookup.3, ap length c.deref.ensures.value)))
