use Rattle.std.proofs.{Common.{◌∙◌}, lemmas.Result.{err_from_is_err_and}}
use Rattle.top_call.proofs.Gathering.{breaks-early, breaks-late, record-out}
use Rattle.top_call.proofs.record.write_record.Goals as goal

pub returns-in_err-gather_events-clause-bytes : goal.returns-in_err-gather_events-clause-bytes
returns-in_err-gather_events-clause-bytes g c =
    let (n, out) = rw c.deref.ensures.value at c.in_err-gather_events.ensures.gathered in
    let p = err_from_is_err_and c.from_residual.result c.from_residual.ensures.1 in
    rw p.1 (breaks-early _ c.args.log.now.events.items c.args.log.now.whole _ (rw c.new-block.ensures at c.put_setting.ensures) _ _ n out)

pub returns-in_err-make_room-clause-bytes : goal.returns-in_err-make_room-clause-bytes
returns-in_err-make_room-clause-bytes g c =
    let (n, out) = c.in_err-make_room.ensures.gathered in
    let p = err_from_is_err_and c.from_residual-in_err-make_room.result c.from_residual-in_err-make_room.ensures.1 in
    rw p.1
    (breaks-late _ c.args.log.now.events.items c.args.log.now.whole _ (rw c.new-block.ensures at c.put_setting.ensures) _ _ _ _ n
    (rw c.deref.ensures.value at c.in_ok-gather_events.ensures.gathered) out)

pub returns-clause-bytes : goal.returns-clause-bytes
returns-clause-bytes g c =
    record-out _ c.args.log.now.events.items c.args.log.now.whole _ (rw c.new-block.ensures at c.put_setting.ensures) _ _ _ _ _ _ _ _
    (rw c.deref.ensures.value at c.in_ok-gather_events.ensures.gathered) c.in_ok-make_room.ensures.gathered
    (c.as_bytes.ensures.value ∙ c.as_str.ensures.value ∙ c.put_end.ensures) c.write_all.ensures.bytes
