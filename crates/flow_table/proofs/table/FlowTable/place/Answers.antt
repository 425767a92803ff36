use Rattle.std.proofs.{Common.{ap, refl, ◌∙◌}, lemmas.Result.{err_from_is_err_and}}
use Rattle.frame_headers.specs.Seen.{shown}
use Rattle.flow_table.specs.{Steered.{app_of}, Kept.{entry_shown}, declared.placed.FlowFault.TheVariants.{TooManyFlows, Memory}}
use Rattle.flow_table.proofs.Steering.{too_many-for, begins-for, is_placed, handed_on, told_by, no_fault}
use Rattle.flow_table.proofs.table.FlowTable.place.Goals as goal

pub at-entry-requires : goal.at-entry-requires
at-entry-requires c = c.in_ok-flow.ensures.count.0

pub returns-in_err-flow-clause-too_many : goal.returns-in_err-flow-clause-too_many
returns-in_err-flow-clause-too_many c =
    let p = err_from_is_err_and c.from_residual.result c.from_residual.ensures.1 in
    let segment = shown c.args.segment.now in
    too_many-for c.args.self.now c.self.inside.ports.items c.self.inside.flows segment c.in-Some.app c.self.view_is
    (c.in-Some.ensures.place ∙ ap (λ ports. app_of ports segment.dport) c.deref.ensures.value) _
    (handed_on c.from_residual.result p.0 c.in_err-flow.field-0.0 TooManyFlows p.1 p.2 c.in_err-flow.ensures.too_many)

pub returns-in_err-flow-clause-memory : goal.returns-in_err-flow-clause-memory
returns-in_err-flow-clause-memory c record_number by =
    let p = err_from_is_err_and c.from_residual.result c.from_residual.ensures.1 in
    let segment = shown c.args.segment.now in
    begins-for c.args.self.now c.self.inside.ports.items c.self.inside.flows segment c.in-Some.app c.self.view_is
    (c.in-Some.ensures.place ∙ ap (λ ports. app_of ports segment.dport) c.deref.ensures.value)
    (told_by c.from_residual.result p.0 c.in_err-flow.field-0.0 Memory p.1 p.2 c.in_err-flow.ensures.memory by) record_number

pub returns-clause-placed : goal.returns-clause-placed
returns-clause-placed c =
    let segment = shown c.args.segment.now in
    let told = c.in_ok-flow.ensures in
    is_placed c.args.self.now c.self.inside.ports.items c.self.inside.flows segment c.in-Some.app c.self.view_is
    (c.in-Some.ensures.place ∙ ap (λ ports. app_of ports segment.dport) c.deref.ensures.value)
    c.see.new.self c.in_ok-flow.flow c.at-entry.result.base c.first_byte.result c.counted.result c.has_fin.result
    (entry_shown c.at-entry.result) told.number told.flows told.count.1 c.at-entry.ensures refl c.first_byte.ensures c.counted.ensures.counted
    c.has_fin.ensures

pub returns-clause-too_many : goal.returns-clause-too_many
returns-clause-too_many c =
    let segment = shown c.args.segment.now in
    too_many-for c.args.self.now c.self.inside.ports.items c.self.inside.flows segment c.in-Some.app c.self.view_is
    (c.in-Some.ensures.place ∙ ap (λ ports. app_of ports segment.dport) c.deref.ensures.value) _
    (no_fault c.in_ok-flow.flow _ TooManyFlows c.in_ok-flow.ensures.too_many)
