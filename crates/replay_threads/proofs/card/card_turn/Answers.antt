-- What came is taken, then the step, and a look whether an application has left.
use Rattle.std.proofs.Common.{◌<◌, inl, inr, refl, subst}
use Rattle.replay_threads.proofs.CardTurns.{goes_turn, went-on, when-so}
use Rattle.replay_threads.proofs.card.card_turn.Goals as goal

pub returns-then-see_leave : goal.returns-then-see_leave
returns-then-see_leave g c =
    let came = c.arrive-arrived.ensures in
    let step = c.nic_step-did.ensures in
    record {
      goes = goes_turn c.args.card.now c.arrive-arrived.new.card (record c.arrive-arrived.new.card { feed = c.nic_step-did.new.feed; seat = c.nic_step-did.new.face })
          c.see_leave.new.card c.arrive-arrived.result c.requires.ready (record { seat = came.takes.seat; feed = came.takes.feed; ring = came.takes.ring; came_is = came.takes.came_is; gone = came.takes.gone }) came.may
          step.ready step.beside step.ports refl step.steps c.see_leave.ensures.looks;
      did = λ is. inr (subst (λ n. n < c.see_leave.new.card.gone) came.takes.gone (c.see_leave.ensures.did c.if-see_leave.true));
    }

pub returns-else-see_leave : goal.returns-else-see_leave
returns-else-see_leave g c =
    let came = c.arrive-arrived.ensures in
    let step = c.nic_step-did.ensures in
    record {
      goes = goes_turn c.args.card.now c.arrive-arrived.new.card (record c.arrive-arrived.new.card { feed = c.nic_step-did.new.feed; seat = c.nic_step-did.new.face })
          c.see_leave.new.card c.arrive-arrived.result c.requires.ready (record { seat = came.takes.seat; feed = came.takes.feed; ring = came.takes.ring; came_is = came.takes.came_is; gone = came.takes.gone }) came.may
          step.ready step.beside step.ports refl step.steps c.see_leave.ensures.looks;
      did = λ is. inl (went-on c.args.card.now c.arrive-arrived.new.card (record c.arrive-arrived.new.card { feed = c.nic_step-did.new.feed; seat = c.nic_step-did.new.face })
          c.see_leave.new.card came.takes.seat came.takes.feed c.see_leave.ensures.looks (when-so _ c.nic_step-did.result is step.answer));
    }
