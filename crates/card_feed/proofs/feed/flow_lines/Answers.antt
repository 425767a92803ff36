-- One line for each flow.
use Rattle.std.proofs.{Common.{get_or, ap, arith}, lemmas.Option.{slice_get-get_or}}
use Rattle.card_feed.proofs.Lines.{none_line, told_of, app-within, port-is, lines-none, lines-more, lines-all}
use Rattle.card_feed.proofs.feed.flow_lines.Goals as goal

pub loop-number-init : goal.loop-number-init
loop-number-init c = record {
  lines = rw c.in_ok-lines.ensures.items (λ have. lines-none c.args.table.now.flows c.args.bytes.now);
  end = c.count-number-end.ensures.count;
}

pub flow_line-requires : goal.flow_line-requires
flow_line-requires c =
    let (flow, is, same) = told_of _ _ c.line-flow.ensures in
    let within = app-within c.args.table.now.ports c.args.apps.now c.args.table.now.flows c.requires.many c.requires.apps c.loop-number.number flow is in
    omega (arith, within, ap (λ info. info.app) same)

pub loop-number-preserved : goal.loop-number-preserved
loop-number-preserved c =
    let (flow, is, same) = told_of _ _ c.line-flow.ensures in
    record {
      lines = rw c.in_ok-push.ensures.items (λ have. lines-more c.loop-number.number c.args.table.now.flows c.args.bytes.now c.loop-number.lines.items flow
          (get_or c.args.bytes.now c.loop-number.number 0) c.flow_line.result (c.loop-number.invariant.lines have) is
          (slice_get-get_or c.args.bytes.now c.loop-number.number 0 (omega (arith, c.loop-number-test.true, c.loop-number.invariant.end, c.requires.bytes)))
          (c.flow_line.ensures flow none_line same
          (port-is c.args.table.now.ports c.args.apps.now c.args.table.now.flows have c.requires.many c.requires.apps c.loop-number.number flow is none_line)));
      end = c.loop-number.invariant.end;
    }

pub returns : goal.returns
returns c = λ have. lines-all c.loop-number.number c.args.table.now.flows c.args.bytes.now c.loop-number.lines.items (c.loop-number.invariant.lines have)
    (omega (arith, c.loop-number-test.false, c.loop-number.invariant.end)) (omega (arith, c.loop-number.auto.number-end, c.loop-number.invariant.end))
