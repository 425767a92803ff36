-- A record is its header and its captured bytes.
use Rattle.std.proofs.{Common.{◌≡◌, sym, subst}, lemmas.Result.{err_from_is_err_and}}
use Rattle.zr_kinds.specs.declared.fault.Fault.TheVariants.{Memory}
use Rattle.pcap_reader.{specs.Steps.{BodyStops}, proofs.Joined.{Stops-bodiless, Took-record, Took-record-alone, Took-wanting}}
use Rattle.pcap_reader.proofs.capture.read_next.Goals as goal

pub returns-in_err-read_body-clause-gives : goal.returns-in_err-read_body-clause-gives
returns-in_err-read_body-clause-gives g c =
    let header = rw c.in-Some.is at c.in_ok-record.ensures.takes in
    let p = err_from_is_err_and c.from_residual-in_err-read_body.result c.from_residual-in_err-read_body.ensures.1 in
    rw (p.1, p.2) (Stops-bodiless c.args.order _ _ _ c.in-Some.record _ header c.in_err-read_body.ensures.takes)

pub returns-clause-gives : goal.returns-clause-gives
returns-clause-gives g c =
    let header = rw c.in-Some.is at c.in_ok-record.ensures.takes in
    let body = c.in_ok-read_body.ensures.takes in (
      sym body.0,
      Took-record c.args.order _ _ _ c.in-Some.record c.read_body.new.into.items header body.0 body.1,
      Took-record-alone c.args.order _ _ _ c.in-Some.record c.read_body.new.into.items header body.0 body.1,
    )

pub returns-in_err-read_body-clause-memory : goal.returns-in_err-read_body-clause-memory
returns-in_err-read_body-clause-memory g c = λ same.
    let header = rw c.in-Some.is at c.in_ok-record.ensures.takes in
    let p = err_from_is_err_and c.from_residual-in_err-read_body.result c.from_residual-in_err-read_body.ensures.1 in
    let wanted : c.in_err-read_body.field-0.0 ≡ Memory = cc (p.1, p.2, same) in
    Took-wanting c.args.order _ _ _ c.in-Some.record header (subst (BodyStops c.in-Some.record.captured _ _) wanted c.in_err-read_body.ensures.takes)
