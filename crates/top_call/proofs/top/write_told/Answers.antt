-- The report goes out first, and the record behind it.
use Rattle.std.proofs.{Common.{subst}, lemmas.Result.{err_from_is_err_and}, KnownBytes.{Appends-trans}}
use Rattle.zr_io.specs.Moved.{Rose}
use Rattle.top_call.{specs.Records.{record_in}, proofs.Recording.{front-within, lost-behind}}
use Rattle.top_call.proofs.top.write_told.Goals as goal

pub returns-in_err-write_report-clause-gained : goal.returns-in_err-write_report-clause-gained
returns-in_err-write_report-clause-gained g c =
    let p = err_from_is_err_and c.from_residual.result c.from_residual.ensures.1 in
    rw (p.1, p.2)
    (lost-behind _ _ _ _ _ (record_in c.args.plan.now c.args.card.now) c.in_err-write_report.field-0.0 c.in_err-write_report.ensures.gained)

pub returns-in-Ok-clause-gained : goal.returns-in-Ok-clause-gained
returns-in-Ok-clause-gained g c = Appends-trans _ _ _ _ _ c.in_ok-write_report.ensures.gained c.in-Ok.ensures.bytes

pub returns-in-Err-clause-gained : goal.returns-in-Err-clause-gained
returns-in-Err-clause-gained g c =
    let (n, out) = c.in-Err.ensures.bytes in (
      front-within _ _ _ _ _ n c.in_ok-write_report.ensures.gained out,
      subst (λ n. Rose n (g.O.Sink.faults c.write_events.new.out)) c.in_ok-write_report.ensures.still c.in-Err.ensures.cause.failed,
    )
