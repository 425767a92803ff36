use Rattle.std.proofs.Common.{◌∙◌, ap, inr, refl}
use Rattle.frame_headers.specs.Seen.{shown}
use Rattle.flow_table.{specs.Steered.{app_of}, proofs.Steering.{too_many-for, counted-for}}
use Rattle.flow_table.proofs.table.FlowTable.admits.Goals as goal

pub returns-in_err-len-clause-refuses : goal.returns-in_err-len-clause-refuses
returns-in_err-len-clause-refuses c record_number none =
    let segment = shown c.args.segment.now in
    let place = c.in_ok-app_of.ensures.place ∙ ap (λ ports. app_of ports segment.dport) c.deref.ensures.value in
    let many = too_many-for c.args.self.now c.self.inside.ports.items c.self.inside.flows segment c.in_ok-app_of.field-0 c.self.view_is place
    _ ((λ same. same), (λ same. same)) record_number in
    inr (many.0 (c.in_err-len.ensures.too_many refl))

pub returns-clause-few : goal.returns-clause-few
returns-clause-few c record_number is =
    let segment = shown c.args.segment.now in
    let place = c.in_ok-app_of.ensures.place ∙ ap (λ ports. app_of ports segment.dport) c.deref.ensures.value in
    let many = too_many-for c.args.self.now c.self.inside.ports.items c.self.inside.flows segment c.in_ok-app_of.field-0 c.self.view_is place
    _ ((λ same. same), (λ same. same)) record_number in
    c.in_ok-len.ensures.few (many.1 is)

pub returns-clause-counted : goal.returns-clause-counted
returns-clause-counted c =
    let segment = shown c.args.segment.now in
    counted-for c.args.self.now c.self.inside.ports.items c.self.inside.flows segment c.in_ok-app_of.field-0 c.self.view_is
    (c.in_ok-app_of.ensures.place ∙ ap (λ ports. app_of ports segment.dport) c.deref.ensures.value)
    c.in_ok-len.len (c.in_ok-len.ensures.counted c.in_ok-app_of.field-0)
