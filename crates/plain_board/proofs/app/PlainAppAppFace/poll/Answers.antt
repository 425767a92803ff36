-- A split note that was taken is logged as held, and all else isn't.
use Rattle.std.proofs.Common.{refl}
use Rattle.plain_board.proofs.Polls.{other-tells, polled-note, polled-other}
use Rattle.plain_board.proofs.app.PlainAppAppFace.poll.Goals as goal

pub invariant_of-self : goal.invariant_of-self
invariant_of-self c =
    let old = c.self.inside.board.value.contents in
    let a = c.self.inside.app in
    let took = rw (c.deref_mut.ensures.value, c.in-Note.is) at c.poll-polled.ensures.view in
    let said = rw c.deref_mut.ensures.value at c.poll-polled.ensures in
    rw (c.push.ensures.log, c.deref_mut-in-Note.ensures.value, c.deref_mut.ensures.value)
    (polled-note old c.poll-polled.new.self a _ c.self.invariant said.only c.in-Note.note c.in-Note.field-1 took c.push.ensures.small)

pub invariant_of-self-in_default : goal.invariant_of-self-in_default
invariant_of-self-in_default c =
    let old = c.self.inside.board.value.contents in
    let a = c.self.inside.app in
    let said = rw c.deref_mut.ensures.value at c.poll-polled.ensures in
    rw c.deref_mut.ensures.value
    (polled-other old c.poll-polled.new.self a _ c.self.invariant said.only _ c.poll-polled.result said.view c.in_default.not-Note)

pub returns-in-Note-clause-log : goal.returns-in-Note-clause-log
returns-in-Note-clause-log c =
    rw (← c.self.view_is, c.in-Note.is, c.push.ensures.log, c.deref_mut-in-Note.ensures.value, c.deref_mut.ensures.value) refl

pub returns-in_default-clause-log : goal.returns-in_default-clause-log
returns-in_default-clause-log c =
    rw (← c.self.view_is, c.deref_mut.ensures.value) (other-tells _ _ c.poll-polled.result c.in_default.not-Note refl)
