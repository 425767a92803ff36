-- The file header, or the first section header, was read or refused.
use Rattle.std.proofs.{Common.{Err, ap, refl, sym, []}, lemmas.Result.{err_from_is_err_and}}
use Rattle.zr_io.proofs.Moved.{Took-weaker}
use Rattle.pcapng_reader.proofs.Goings.{opening-breaks, opening-stops}
use Rattle.card_feed.{proofs.{Endings.{ends-opening, reads-nothing}, Further.{took-opening}}, specs.Offered.{WantsRoom}}
use Rattle.card_feed.proofs.reading.open.Goals as goal

pub returns-in_err-open-clause-opens : goal.returns-in_err-open-clause-opens
returns-in_err-open-clause-opens g c = λ split first ports frames comes.
    let p = err_from_is_err_and c.from_residual.result c.from_residual.ensures.1 in
    let stops = opening-stops _ _ c.in_err-open.field-0.0 c.in_err-open.ensures.opens in
    let fresh = rw c.in-Unopened.is at comes in
    rw (p.1, p.2, fresh.0, sym fresh.1)
    (ends-opening (WantsRoom split ports) _ _ _ _ ports c.in_err-open.field-0.0 stops.0 stops.1 stops.2 stops.3
    (λ by. c.in_err-open.ensures.cause.read (ap Err by)) (λ other. c.in_err-open.ensures.cause.still (λ failed. other (cc))))

pub returns-in_err-open-clause-further : goal.returns-in_err-open-clause-further
returns-in_err-open-clause-further g c = took-opening _ _ (Err c.in_err-open.field-0.0) c.in_err-open.ensures.opens

pub returns-in_ok-open-clause-opens : goal.returns-in_ok-open-clause-opens
returns-in_ok-open-clause-opens g c = λ split first ports frames comes.
    let opens = c.in_ok-open.ensures.opens in
    let fresh = rw c.in-Unopened.is at comes in
    rw (fresh.0, sym fresh.1) (
      opens.0,
      (
        [],
        refl,
        reads-nothing _ _ _ _ _ ports opens.1 (Took-weaker _ _ _ _ opening-breaks opens.2)
            (c.in_ok-open.ensures.cause.still (λ failed. cc)),
      ),
    )
