use Rattle.std.proofs.Common.{rules, None, inl, inr, refl}
use Rattle.app_worker.proofs.{Pushing.{gave-whole, gave-part}, Through.{goes-then}}
use Rattle.app_worker.specs.declared.reading.Pushed.TheVariants as pushed
use Rattle.app_worker.proofs.straying.give_back.Goals as goal

pub returns-then-not-give_one-clause-works : goal.returns-then-not-give_one-clause-works
returns-then-not-give_one-clause-works g c = record {
  working = c.give_one.ensures.works.working;
  common = c.give_one.ensures.works.common;
  goes = λ kept. goes-then (c.push_left.ensures.works.goes kept) (c.give_one.ensures.works.goes kept);
}

pub returns-in-Part-push_left-clause-works : goal.returns-in-Part-push_left-clause-works
returns-in-Part-push_left-clause-works g c = record {
  working = c.push_left-2.ensures.works.working;
  common = c.push_left-2.ensures.works.common;
  goes = λ kept. goes-then (c.push_left.ensures.works.goes kept) (goes-then (c.give_one.ensures.works.goes kept) (c.push_left-2.ensures.works.goes kept));
}

pub returns-in-InUse-push_left-clause-works : goal.returns-in-InUse-push_left-clause-works
returns-in-InUse-push_left-clause-works g c = record {
  working = c.push_left-2.ensures.works.working;
  common = c.push_left-2.ensures.works.common;
  goes = λ kept. goes-then (c.push_left.ensures.works.goes kept) (goes-then (c.give_one.ensures.works.goes kept) (c.push_left-2.ensures.works.goes kept));
}

pub returns-in_default-clause-works : goal.returns-in_default-clause-works
returns-in_default-clause-works g c = record {
  working = c.push_left-2.ensures.works.working;
  common = c.push_left-2.ensures.works.common;
  goes = λ kept. goes-then (c.push_left.ensures.works.goes kept) (goes-then (c.give_one.ensures.works.goes kept) (c.push_left-2.ensures.works.goes kept));
}

pub returns-in_default-clause-gives : goal.returns-in_default-clause-gives
returns-in_default-clause-gives g c =
    let nothing = c.in-Nothing.ensures.pushes in
    gave-whole c.push_left-2.result c.in_default.not-Part c.in_default.not-InUse nothing.0 nothing.1 (search rules) (search rules)
    (c.push_left-2.ensures.works.goes (λ _. None)).moves c.push_left-2.ensures.pushes

pub returns-in-Part-push_left-clause-gives : goal.returns-in-Part-push_left-clause-gives
returns-in-Part-push_left-clause-gives g c =
    let nothing = c.in-Nothing.ensures.pushes in
    gave-part pushed.Part (inl refl) nothing.0 nothing.1 (search rules) (search rules) (c.give_one.ensures.works.goes (λ _. None)).moves
    (c.push_left-2.ensures.works.goes (λ _. None)).moves c.in-Part-push_left.ensures.pushes

pub returns-in-InUse-push_left-clause-gives : goal.returns-in-InUse-push_left-clause-gives
returns-in-InUse-push_left-clause-gives g c =
    let nothing = c.in-Nothing.ensures.pushes in
    gave-part pushed.InUse (inr refl) nothing.0 nothing.1 (search rules) (search rules) (c.give_one.ensures.works.goes (λ _. None)).moves
    (c.push_left-2.ensures.works.goes (λ _. None)).moves c.in-InUse-push_left.ensures.pushes
