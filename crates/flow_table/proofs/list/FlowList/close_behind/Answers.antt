use Rattle.std.proofs.Common.{Some, sym, ap, ◌∙◌, option_map, arith}
use Rattle.frame_headers.specs.Seen.{shown}
use Rattle.flow_table.{specs.{Flows.{Flow}, Placing.{steered_to}, Kept.{entry_shown}}, proofs.FlowLaws.{with_segment-here, with_segment-next}}
use Rattle.flow_table.proofs.list.FlowList.close_behind.Goals as goal

pub returns-then-number-count : goal.returns-then-number-count
returns-then-number-count c app record_number =
    ap (option_map (λ (f : Flow). f.close))
    (with_segment-here c.args.self.now c.args.number (steered_to app (shown c.args.segment.now) record_number) (entry_shown c.at-entry.result)
    c.at-entry.ensures
    ∙ ap Some (sym c.see.ensures))

pub returns-else-number-count : goal.returns-else-number-count
returns-else-number-count c app record_number =
    ap (option_map (λ (f : Flow). f.close))
    (with_segment-next c.args.self.now c.args.number (steered_to app (shown c.args.segment.now) record_number) (omega arith))
    ∙ ap (λ (f : Flow). Some f.close) (sym (c.begin.ensures 0))
