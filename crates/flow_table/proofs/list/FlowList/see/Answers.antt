use Rattle.std.proofs.Common.{◌≡◌, ◌+◌, ◌<◌, List, length, subst, sym, arith, if◌then◌else◌, ◌==◌}
use Rattle.frame_headers.specs.Seen.{shown}
use Rattle.flow_table.{specs.{Flows.{Flow}, Placing.{steered_to}, Kept.{entry_shown}}, proofs.Listing.{begun-with_segment, with_segment-seen}}
use Rattle.flow_table.proofs.list.FlowList.see.Goals as goal

pub returns-then-number-count-clause-flows : goal.returns-then-number-count-clause-flows
returns-then-number-count-clause-flows c =
    let began = c.begin-then-number-count in
    begun-with_segment began.result c.args.self.now began.new.self (entry_shown c.begin.result)
    (steered_to c.args.app (shown c.args.segment.now)) began.ensures.number began.ensures.begun c.begin.ensures

pub returns-clause-count : goal.returns-clause-count
returns-clause-count c =
    let number = c.number_of_flow-number.result in
    let flows = c.args.self.now in
    subst (λ (after : List Flow). (number < length after) × (length after ≡ length flows + (if number == length flows then 1 else 0)))
    (sym (c.go_on.ensures c.args.app 0))
    (with_segment-seen flows number (steered_to c.args.app (shown c.args.segment.now) 0) (omega arith))
