-- Each buffer in which the application had a user count is logged with the counts that the scrub leaves there.
use Rattle.plain_board.proofs.Logging.{scrub-told, scrubbed-part}
use Rattle.plain_board.proofs.app.PlainAppAppFace.scrub.Goals as goal

pub invariant_of-self : goal.invariant_of-self
invariant_of-self c =
    let old = c.self.inside.board.value.contents in
    let new = c.scrub.new.self in
    let a = c.self.inside.app in
    let can = rw (← c.self.view_is) at c.requires.can in
    let said = rw (c.deref_mut-2.ensures.value, c.log_scrub.ensures.contents, c.deref_mut.ensures.value) at c.scrub.ensures in
    let log = rw c.deref_mut.ensures.value at c.log_scrub.ensures.log in
    rw c.deref_mut-2.ensures.value
    (scrubbed-part old new a _ c.self.invariant said.others can.loans said.taken said.layout said.sound _ log)

pub returns-clause-log : goal.returns-clause-log
returns-clause-log c =
    let old = c.self.inside.board.value.contents in
    let new = c.scrub.new.self in
    let a = c.self.inside.app in
    let can = rw (← c.self.view_is) at c.requires.can in
    let said = rw (c.deref_mut-2.ensures.value, c.log_scrub.ensures.contents, c.deref_mut.ensures.value) at c.scrub.ensures in
    let log = rw c.deref_mut.ensures.value at c.log_scrub.ensures.log in
    rw (← c.self.view_is, c.deref_mut-2.ensures.value) (scrub-told old new a _ c.self.invariant said.others can.loans said.taken _ log)
