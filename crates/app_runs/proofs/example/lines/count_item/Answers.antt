-- The loan goes by an entry, or it is given up, and it was the only one.
use Rattle.std.proofs.Common.{rules, ◌≡◌, ◌∙◌, ap, length}
use Rattle.board_face.specs.{AppCalls.{HasLoan}, declared.views.app.AppView.{AppView}}
use Rattle.app_runs.proofs.OneLoan.{none-left}
use Rattle.app_runs.proofs.example.lines.count_item.Goals as goal

pub returns-in-Err-clause-none : goal.returns-in-Err-clause-none
returns-in-Err-clause-none g c =
    let v : AppView = g.F.AppFace.seen c.give.new.self.face in
    let one : length v.loans ≡ 1 = ap (λ (k : AppView). length k.loans) c.in-Err.ensures.view.1.event ∙ c.loop-at.invariant.only in
    let out : HasLoan v c.in-Err.loan = search rules in
    ap (λ (k : AppView). k.loans) c.abandon.ensures.view ∙ none-left v c.in-Err.loan c.give.ensures.stays.stands.common.apart one out

pub returns-in_default-clause-none : goal.returns-in_default-clause-none
returns-in_default-clause-none g c =
    let v : AppView = g.F.AppFace.seen c.loop-at.stream.face in
    let out : HasLoan v c.into_loan.result = search rules in
    ap (λ (k : AppView). k.loans) c.in_default.ensures.view
    ∙ none-left v c.into_loan.result c.loop-at.invariant.stands.common.apart c.loop-at.invariant.only out
