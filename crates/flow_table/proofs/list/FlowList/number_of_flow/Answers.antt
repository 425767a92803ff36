use Rattle.std.proofs.{Common.{sym, ◌∙◌, arith}, lemmas.{Bool.{cond-true, cond-false}, Option.{slice_get_within}}}
use Rattle.frame_headers.specs.Seen.{shown}
use Rattle.flow_table.{specs.{Flows.{key_of}, Kept.{entry_shown}}, proofs.Listing.{newest-numbered, number_among-newest}}
use Rattle.flow_table.proofs.list.FlowList.number_of_flow.Goals as goal

pub at-requires : goal.at-requires
at-requires c =
    let found = newest-numbered (key_of (shown c.args.segment.now)) c.args.self.now c.in-Some.number c.in-Some.ensures in
    slice_get_within c.args.self.now c.in-Some.number found.0 found.2

pub returns-then-ends_before-clause-number : goal.returns-then-ends_before-clause-number
returns-then-ends_before-clause-number c =
    c.count-then-ends_before.ensures.count
    ∙ sym (number_among-newest c.args.self.now (shown c.args.segment.now) c.in-Some.number (entry_shown c.at.result) c.in-Some.ensures c.at.ensures
    ∙ cond-true _ _ _ (sym c.if-ends_before.ensures))

pub returns-else-ends_before-clause-number : goal.returns-else-ends_before-clause-number
returns-else-ends_before-clause-number c =
    sym (number_among-newest c.args.self.now (shown c.args.segment.now) c.in-Some.number (entry_shown c.at.result) c.in-Some.ensures c.at.ensures
    ∙ cond-false _ _ _ (sym c.if-ends_before.ensures))

pub returns-else-ends_before-clause-within : goal.returns-else-ends_before-clause-within
returns-else-ends_before-clause-within c = omega (arith, slice_get_within c.args.self.now c.in-Some.number (entry_shown c.at.result) c.at.ensures)
