-- The length that is kept is that of the spare's text, and the loan is counted.
use Rattle.std.proofs.Common.{rules, ◌≡◌, subst, length, arith}
use Rattle.board_face.specs.{AppCalls.{HasSpare}, AppEvents.{begin_place, own_bytes}, declared.views.parts.Filling.{Filling}}
use Rattle.word_board.{specs.Board.{TheApp}, proofs.SparesKept.{spare-within, loans-there, lengths-there, few-counted, place-own, AppKeeps-lent_own}}
use Rattle.word_board.proofs.app_seat.AppSeatAppFace.lend_own.Goals as goal

pub index-len-requires : goal.index-len-requires
index-len-requires c =
    let out : HasSpare c.self.inside.app.side.view c.filling_of-filling.result = search rules in
    omega (arith, lengths-there _ _ _ _ _ _ _ c.self.invariant _ out, c.self.inside.hand.filled.ok.0)

pub lend_spare-requires-clause-within : goal.lend_spare-requires-clause-within
lend_spare-requires-clause-within c =
    let out : HasSpare c.self.inside.app.side.view c.filling_of-filling.result = search rules in
    spare-within _ _ _ _ _ _ _ c.self.invariant _ out

pub raise-requires-clause-there : goal.raise-requires-clause-there
raise-requires-clause-there c =
    let out : HasSpare c.self.inside.app.side.view c.filling_of-filling.result = search rules in
    loans-there _ _ _ _ _ _ _ c.self.invariant _ out

pub raise-requires-clause-fits : goal.raise-requires-clause-fits
raise-requires-clause-fits c =
    let out : HasSpare c.self.inside.app.side.view c.filling_of-filling.result = search rules in
    few-counted _ _ _ _ _ _ _ c.self.invariant _ out c.lend_spare.ensures.few_out

pub invariant_of-self : goal.invariant_of-self
invariant_of-self c =
    let out : HasSpare c.self.inside.app.side.view c.filling_of-filling.result = search rules in
    let did = c.lend_spare.ensures in rw (did.event, c.raise.ensures) (AppKeeps-lent_own _ _ _ _ _ _ _ c.self.invariant _ out)

pub returns-clause-place : goal.returns-clause-place
returns-clause-place c =
    let out : HasSpare c.self.inside.app.side.view c.filling_of-filling.result = search rules in
    let made = place-own _ _ _ _ _ _ _ c.self.invariant _ out _ _ c.new.ensures c.index-len.ensures in
    subst (λ (s : TheApp). c.new.result ≡ begin_place c.args.own.buffer (length (own_bytes s.side.view c.args.own))) c.self.view_is
    (subst (λ (o : Filling). c.new.result ≡ begin_place o.buffer (length (own_bytes c.self.inside.app.side.view o)))
    c.filling_of-filling.ensures made)
