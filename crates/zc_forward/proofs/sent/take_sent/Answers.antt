use Rattle.std.proofs.{Common.{◌≡◌, ◌<◌, ◌+◌, List, Some, length, refl, slice_get, slice_index_or, subst, sym}, lemmas.Option.{slice_get_read}}
use Rattle.flow_queues.specs.Core.{IsIn}
use Rattle.zc_forward.{specs.{declared.sent.Sent.{Sent}, Sending.{of_sent}}, proofs.Sents.{at-gone, at-is-in}}
use Rattle.zc_forward.proofs.sent.take_sent.Goals as goal

pub returns-clause-was : goal.returns-clause-was
returns-clause-was c =
    let out : List Sent = c.args.out.now.items in
    let i = c.in-Some.i in
    let sent : Sent = c.remove-loan.result in
    let here : i < length out = subst (λ (ss : List Sent). i < length ss) c.deref.ensures.value c.in-Some.ensures.0 in
    let tag = c.in-Some.ensures.1 sent (subst (λ (ss : List Sent). sent ≡ slice_index_or ss i sent) (sym c.deref.ensures.value) c.remove-loan.ensures.value) in (
      sent.flow,
      subst (λ t. IsIn (record { tag = t; flow = sent.flow; loan = sent.loan }) out) tag (at-is-in i out sent here c.remove-loan.ensures.value),
    )

pub returns-clause-loans : goal.returns-clause-loans
returns-clause-loans c = λ f.
    let out : List Sent = c.args.out.now.items in
    let i = c.in-Some.i in
    let sent : Sent = c.remove-loan.result in
    let here : i < length out = subst (λ (ss : List Sent). i < length ss) c.deref.ensures.value c.in-Some.ensures.0 in
    subst (λ (ss : List Sent). f sent.loan + of_sent f ss ≡ of_sent f out) (sym c.remove-loan.ensures.items)
    (at-gone f i out sent here c.remove-loan.ensures.value)

pub returns-clause-at : goal.returns-clause-at
returns-clause-at c =
    let out : List Sent = c.args.out.now.items in
    let i = c.in-Some.i in
    let sent : Sent = c.remove-loan.result in
    let here : i < length out = subst (λ (ss : List Sent). i < length ss) c.deref.ensures.value c.in-Some.ensures.0 in
    let tag = c.in-Some.ensures.1 sent (subst (λ (ss : List Sent). sent ≡ slice_index_or ss i sent) (sym c.deref.ensures.value) c.remove-loan.ensures.value) in (
      sent.flow,
      i,
      subst (λ t. slice_get out i ≡ Some (record { tag = t; flow = sent.flow; loan = sent.loan })) tag
          (slice_get_read out (length out) i sent refl here c.remove-loan.ensures.value),
      c.remove-loan.ensures.items,
    )
