use Rattle.std.proofs.{Common.{◌∙◌}, lemmas.Result.{err_from_is_err_and}}
use Rattle.top_call.proofs.Gathering.{event-breaks, event-waits}
use Rattle.top_call.proofs.record.gather_events.Goals as goal

pub loop-event-preserved : goal.loop-event-preserved
loop-event-preserved g c = (
  c.in_ok-gather_event.ensures.cause.still ∙ c.loop-event.invariant.0,
  event-waits _ _ _ _ _ c.args.events.now c.loop-event.event-index _ c.loop-event-test.true c.loop-event.invariant.1 _
      c.in_ok-gather_event.ensures.gathered,
)

pub returns-in_err-gather_event-clause-gathered : goal.returns-in_err-gather_event-clause-gathered
returns-in_err-gather_event-clause-gathered g c =
    let (n, out) = c.in_err-gather_event.ensures.gathered in
    let p = err_from_is_err_and c.from_residual.result c.from_residual.ensures.1 in
    rw p.1
    (event-breaks _ _ _ _ _ c.args.events.now c.loop-event.event-index _ c.loop-event-test.true c.loop-event.invariant.1 n out)
