use Rattle.std.proofs.Common.{◌≡◌, ◌+◌, ◌-◌, refl, sym, subst, ◌∙◌, arith}
use Rattle.zc_poll.{specs.Standing.{NoneInOrder}, proofs.Passing.{passed-then, passed-still, stepped-then}}
use Rattle.zc_poll.proofs.stream.LoanStream.step.Goals as goal

pub returns-in-Some-next_note-clause-stepped : goal.returns-in-Some-next_note-clause-stepped
returns-in-Some-next_note-clause-stepped g c =
    let takes = c.in-Some-next_note.ensures.takes in
    stepped-then _ _ _ _ _ _ _ c.loop-left.invariant.0 c.in-Some-next_note.step takes.1 takes.0

pub returns-in-Some-offer-clause-stepped : goal.returns-in-Some-offer-clause-stepped
returns-in-Some-offer-clause-stepped g c =
    let offers = c.in-Some-offer.ensures.offers in
    let passed = passed-then _ _ _ _ _ _ _ _ _ refl c.loop-left.invariant.0 c.in_default-next_note.ensures.takes in
    stepped-then _ _ _ _ _ _ _ passed c.in-Some-offer.step offers.1 offers.0

pub loop-left-preserved : goal.loop-left-preserved
loop-left-preserved g c =
    let places = (g.F.AppFace.seen c.args.self.now.face).setting.places in
    let offers = c.in_default-offer.ensures.offers in
    let was = c.loop-left.invariant in
    let count : places - (c.loop-left.left - 1) ≡ (places - c.loop-left.left) + 1 = omega arith in
    let passed = passed-then _ _ _ _ _ _ _ _ _ count was.0 c.in_default-next_note.ensures.takes in (
      passed-still _ _ _ _ _ _ _ offers.0 offers.1 passed,
      subst NoneInOrder (sym offers.0) offers.2,
      omega arith,
      was.3,
      c.in_default-offer.ensures.beside ∙ c.in_default-next_note.ensures.beside ∙ was.4,
    )
