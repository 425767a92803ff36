use Rattle.std.proofs.Common.{rules, ◌≡◌, Some, sym, subst, ◌≤◌, ◌<◌, ◌==◌, ◌∙◌, ◌⊎◌, false, arith}
use Rattle.board_face.specs.declared.views.app.AppView.{AppView}
use Rattle.zc_forward.specs.{OutboxOf.{outbox_of}, Tags.{Tags, TakesTag}, Sending.{OutboxState, many_kept, most_out}, Forwarding.{ForwardStands}}
use Rattle.zc_forward.{specs.Turns.{Stage, TurnDoes, stage_of, with_due, CarriedItem}, proofs.{Live.{has-out}, Forwards.{due-out}, Scrubs.{not-full}}}
use Rattle.zc_forward.proofs.forwarding.go_on.Goals as goal

pub give_back-requires-clause-holds : goal.give_back-requires-clause-holds
give_back-requires-clause-holds g c =
    let v : AppView = g.F.AppFace.seen c.args.stream.now.face in
    let (first, losses, was, took, before) = c.requires.stands in
    let due : c.args.work.now.tally.due ≡ Some c.in-Some-take.loan = search rules in
    record { stands = before.stands; out = has-out v c.in-Some-take.loan (due-out (outbox_of c.args.work.now) v.loans c.in-Some-take.loan before.loans due) }

pub returns-then-not-has_ended-clause-does : goal.returns-then-not-has_ended-clause-does
returns-then-not-has_ended-clause-does g c = λ was pace took asked.
    let v : AppView = g.F.AppFace.seen c.args.stream.now.face in
    let none : g.C.Carrier.tags c.args.carrier.now ≡ was = subst (TakesTag was (g.C.Carrier.tags c.args.carrier.now)) c.in_default.is took in
    let same : with_due (outbox_of c.args.work.now) c.take.new.self ≡ outbox_of c.args.work.now = search rules in
    let now : Stage = stage_of (outbox_of c.take_step.new.work) c.take_step.new.stream.desk (g.C.Carrier.tags c.take_step.new.carrier)
    (g.C.Carrier.pace c.take_step.new.carrier) (g.F.AppFace.seen c.take_step.new.stream.face) in
    subst (λ (o : OutboxState). TurnDoes (stage_of o c.args.stream.now.desk was pace v) now c.take_step.result) same
    (subst (λ (ts : Tags). TurnDoes (stage_of (with_due (outbox_of c.args.work.now) c.take.new.self) c.args.stream.now.desk ts pace v) now c.take_step.result) none
    (c.take_step.ensures.does pace))

pub returns-clause-does : goal.returns-clause-does
returns-clause-does g c = λ was pace took asked.
    let v : AppView = g.F.AppFace.seen c.args.stream.now.face in
    let tags : Tags = g.C.Carrier.tags c.args.carrier.now in
    let none : tags ≡ was = subst (TakesTag was tags) c.in_default.is took in
    let same : with_due (outbox_of c.args.work.now) c.take.new.self ≡ outbox_of c.args.work.now = search rules in
    let now : Stage = stage_of (outbox_of c.leave.new.work) c.leave.new.stream.desk tags (g.C.Carrier.pace c.args.carrier.now)
    (g.F.AppFace.seen c.leave.new.stream.face) in
    let (first, losses, earlier, gone, before) = c.requires.stands in
    let got = g.C.Carrier.got c.args.carrier.now in
    let faults = g.C.Carrier.counts c.args.carrier.now in
    let on : ForwardStands first losses (outbox_of c.args.work.now) c.args.stream.now.desk tags got faults v =
    subst (λ (ts : Tags). ForwardStands first losses (outbox_of c.args.work.now) c.args.stream.now.desk ts got faults v)
    (sym (subst (TakesTag earlier tags) c.in_default.is gone)) before in
    subst (λ (o : OutboxState). TurnDoes (stage_of o c.args.stream.now.desk was pace v) now c.leave.result) same
    (subst (λ (ts : Tags). TurnDoes (stage_of (with_due (outbox_of c.args.work.now) c.take.new.self) c.args.stream.now.desk ts pace v) now c.leave.result) none
    (c.leave.ensures.does first got losses faults tags pace (g.C.Carrier.pace c.args.carrier.now)
    (subst (λ (o : OutboxState). ForwardStands first losses o c.args.stream.now.desk tags got faults v) (sym same) on)))

pub take_step-requires-clause-can : goal.take_step-requires-clause-can
take_step-requires-clause-can g c =
    let (first, losses, was, took, before) = c.requires.stands in
    let few : many_kept (outbox_of c.args.work.now) ≤ most_out = omega (arith, before.few) in
    let no : c.is_full.result ≡ false = c.if-is_full.false in
    let is : (many_kept (outbox_of c.args.work.now) == most_out) ≡ false = sym c.is_full.ensures ∙ no in
    let less : many_kept (outbox_of c.args.work.now) < most_out = search rules in
    record { more = search rules; due = search rules; few = omega (arith, less) }

pub returns-then-not-has_ended-clause-rest : goal.returns-then-not-has_ended-clause-rest
returns-then-not-has_ended-clause-rest g c = λ was pace took.
    let v : AppView = g.F.AppFace.seen c.args.stream.now.face in
    let none : g.C.Carrier.tags c.args.carrier.now ≡ was = subst (TakesTag was (g.C.Carrier.tags c.args.carrier.now)) c.in_default.is took in
    let same : with_due (outbox_of c.args.work.now) c.take.new.self ≡ outbox_of c.args.work.now = search rules in
    let now : Stage = stage_of (outbox_of c.take_step.new.work) c.take_step.new.stream.desk (g.C.Carrier.tags c.take_step.new.carrier)
    (g.C.Carrier.pace c.take_step.new.carrier) (g.F.AppFace.seen c.take_step.new.stream.face) in
    rw c.in_default.is
    (subst (λ (o : OutboxState). (c.take_step.new.carrier ≡ c.args.carrier.now) ⊎ CarriedItem (stage_of o c.args.stream.now.desk was pace v) now) same
    (subst (λ (ts : Tags). (c.take_step.new.carrier ≡ c.args.carrier.now)
    ⊎ CarriedItem (stage_of (with_due (outbox_of c.args.work.now) c.take.new.self) c.args.stream.now.desk ts pace v) now) none
    (c.take_step.ensures.rest pace)))

pub returns-then-is_full-clause-scrubs : goal.returns-then-is_full-clause-scrubs
returns-then-is_full-clause-scrubs g c = λ none not due out.
    let full : many_kept (outbox_of c.args.work.now) ≡ most_out = search rules in absurd (not-full (outbox_of c.args.work.now) out full)
