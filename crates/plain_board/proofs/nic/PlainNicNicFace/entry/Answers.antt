-- A return is logged with the counts that it leaves, a stray as one, and that nothing was there isn't.
use Rattle.std.proofs.Common.{refl, ◌∷◌, []}
use Rattle.board_face.specs.{BoardSteps.{looks, strays}, NicEvents.{passed_over, nic_saw}, declared.views.nic.NicLook.TheVariants.{RingEmpty}}
use Rattle.plain_board.proofs.{Logging.{nic-by, only-looked, card-told}, AppFrames.{here-of}, Card.{within-setting}}
use Rattle.plain_board.proofs.Returned.{empty-tells, honour-tells, honour-told, return-tells}
use Rattle.plain_board.proofs.nic.PlainNicNicFace.entry.Goals as goal

pub invariant_of-self : goal.invariant_of-self
invariant_of-self c =
    let before = c.self.invariant.sound in
    let here = here-of _ c.args.app before (within-setting _ _ before (rw (← c.self.view_is) at c.requires.app)) in
    let only = rw c.deref_mut.ensures.value at c.entry-entry.ensures.only in
    let answered = rw (c.deref_mut.ensures.value, c.in-Some.is) at c.entry-entry.ensures.returned in
    let pool = rw c.deref.ensures at c.pool_count-pool.ensures in
    let user = rw c.deref-in-Some.ensures at c.user_count-user.ensures in
    rw (c.push.ensures.log, c.deref_mut-in-Some.ensures.value, c.deref_mut.ensures.value)
    (honour-told _ _ c.args.app c.in-Some.buffer _ c.self.invariant here answered.1 only _ _ pool user c.push.ensures.small)

pub returns-in-Some-clause-log : goal.returns-in-Some-clause-log
returns-in-Some-clause-log c =
    let before = c.self.invariant.sound in
    let here = here-of _ c.args.app before (within-setting _ _ before (rw (← c.self.view_is) at c.requires.app)) in
    let only = rw c.deref_mut.ensures.value at c.entry-entry.ensures.only in
    let answered = rw (c.deref_mut.ensures.value, c.in-Some.is) at c.entry-entry.ensures.returned in
    let pool = rw c.deref.ensures at c.pool_count-pool.ensures in
    let user = rw c.deref-in-Some.ensures at c.user_count-user.ensures in
    let log = rw (c.deref_mut-in-Some.ensures.value, c.deref_mut.ensures.value) at c.push.ensures.log in
    rw (← c.self.view_is, c.deref_mut-in-Some.ensures.value) (return-tells c.args.app _ _ c.entry-entry.result.0 answered.0
    (honour-tells _ _ c.args.app c.in-Some.buffer _ c.self.invariant here answered.1 only _ _ _ pool user log))

pub returns-in-Some-clause-judged : goal.returns-in-Some-clause-judged
returns-in-Some-clause-judged c = λ some.
    let judged = rw c.deref_mut.ensures.value at c.entry-entry.ensures.judged some in
    rw (← c.self.view_is, c.deref_mut-in-Some.ensures.value) judged

pub invariant_of-self-in-Stray : goal.invariant_of-self-in-Stray
invariant_of-self-in-Stray c =
    let old = c.self.inside.board.value.contents in
    let new = c.entry-entry.new.self in
    let before = c.self.invariant.sound in
    let here = here-of old c.args.app before (within-setting _ _ before (rw (← c.self.view_is) at c.requires.app)) in
    let only = rw c.deref_mut.ensures.value at c.entry-entry.ensures.only in
    let past = rw (c.deref_mut.ensures.value, c.in-Stray.is) at c.entry-entry.ensures.view in
    let nic = nic-by old new (passed_over old.nic.view c.args.app past.entry) before only.sound past.event refl in
    rw (c.push-in-Stray.ensures.log, c.deref_mut-in-Stray.ensures.value, c.deref_mut.ensures.value)
    (card-told (strays c.args.app past.entry) old new _ c.self.invariant tt here nic only (_ ∷ []) refl (c.push-in-Stray.ensures.small, tt))

pub invariant_of-self-in_default : goal.invariant_of-self-in_default
invariant_of-self-in_default c =
    let old = c.self.inside.board.value.contents in
    let new = c.entry-entry.new.self in
    let before = c.self.invariant.sound in
    let said = rw c.deref_mut.ensures.value at c.entry-entry.ensures in
    let none = rw (c.deref_mut.ensures.value, c.in_default.is) at c.entry-entry.ensures.returned in
    let nic = nic-by old new (nic_saw old.nic.view (RingEmpty c.args.app)) before said.only.sound (only-looked _ _ c.args.app _ said.view none c.in_default-entry.not-Stray) refl in
    rw c.deref_mut.ensures.value (card-told (looks (RingEmpty c.args.app)) old new _ c.self.invariant tt tt nic said.only [] refl tt)

pub returns-in_default-entry-clause-log : goal.returns-in_default-entry-clause-log
returns-in_default-entry-clause-log c =
    let none = rw (c.deref_mut.ensures.value, c.in_default.is) at c.entry-entry.ensures.returned in
    rw (← c.self.view_is, c.deref_mut.ensures.value) (empty-tells c.args.app _ _ c.entry-entry.result.0 none c.in_default-entry.not-Stray refl)
