use Rattle.std.proofs.Common.{rules, ◌≡◌, arith}
use Rattle.flow_queues.specs.{KeptOf.{queue_state}, Totals.{capped}}
use Rattle.app_worker.proofs.{InQueues.{queues-work}, Seeing.{left-none}, Delivering.{lent-place, still-active, posted-one, none-next, none-settled, none-spare}}
use Rattle.app_worker.proofs.lending.deliver_one.Goals as goal

pub lend-requires-clause-work : goal.lend-requires-clause-work
lend-requires-clause-work g c = queues-work c.requires.works

pub returns-then-is_full-clause-works : goal.returns-then-is_full-clause-works
returns-then-is_full-clause-works g c = left-none c.requires.works.working c.requires.works.common

pub post-requires-clause-out : goal.post-requires-clause-out
post-requires-clause-out g c = lent-place c.in-Lent.ensures.lends.0

pub post-requires-clause-active : goal.post-requires-clause-active
post-requires-clause-active g c = still-active c.in-Lent.ensures.lends.0

pub post-requires-in-LentCopy-clause-out : goal.post-requires-in-LentCopy-clause-out
post-requires-in-LentCopy-clause-out g c = lent-place c.in-LentCopy.ensures.lends.0

pub post-requires-in-LentCopy-clause-active : goal.post-requires-in-LentCopy-clause-active
post-requires-in-LentCopy-clause-active g c = still-active c.in-LentCopy.ensures.lends.0

pub returns-in-Lent : goal.returns-in-Lent
returns-in-Lent g c =
    let lends = c.in-Lent.ensures.lends in
    let copies : c.args.st.now.tally.copied ≡ capped (g.F.AppFace.seen c.lend.new.face).spares =
    omega (arith, c.requires.works.common.copied, lends.0.lent.spares, lends.0.lent.copy, lends.1) in
    assumption (posted-one _ _ _ _ _ _ c.requires.more c.requires.works lends.0 copies (search rules) _ c.post.ensures)

pub returns-in-LentCopy : goal.returns-in-LentCopy
returns-in-LentCopy g c =
    let lends = c.in-LentCopy.ensures.lends in
    let copies : c.saturating_add-st.result ≡ capped (g.F.AppFace.seen c.lend.new.face).spares =
    omega (arith, c.requires.works.common.copied, lends.0.lent.spares, lends.0.lent.copy, lends.1) in
    assumption (posted-one _ _ _ _ _ _ c.requires.more c.requires.works lends.0 copies (search rules) _ c.post-in-LentCopy.ensures)

pub returns-in-NoneInOrder-clause-works : goal.returns-in-NoneInOrder-clause-works
returns-in-NoneInOrder-clause-works g c = none-next _ (queue_state c.lend.new.st) _ _ c.requires.works c.in-NoneInOrder.ensures.lends

pub returns-in-Unsettled-clause-works : goal.returns-in-Unsettled-clause-works
returns-in-Unsettled-clause-works g c = none-settled _ (queue_state c.lend.new.st) _ _ c.requires.works c.in-Unsettled.ensures.lends

pub returns-in-ReserveHeld-clause-works : goal.returns-in-ReserveHeld-clause-works
returns-in-ReserveHeld-clause-works g c = none-spare _ (queue_state c.lend.new.st) _ _ c.requires.works c.in-ReserveHeld.ensures.lends
