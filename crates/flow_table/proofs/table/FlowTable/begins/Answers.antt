use Rattle.std.proofs.Common.{ap, ◌∙◌}
use Rattle.frame_headers.specs.Seen.{shown}
use Rattle.flow_table.{specs.Steered.{app_of}, proofs.Steering.{begins-for, begins-among, few-for, few-among}}
use Rattle.flow_table.proofs.table.FlowTable.begins.Goals as goal

pub returns-in-Some : goal.returns-in-Some
returns-in-Some c record_number =
    let segment = shown c.args.segment.now in
    let ports = c.self.inside.ports.items in
    let flows = c.self.inside.flows in
    let app = c.in-Some.field-0 in
    let place = c.in-Some.ensures.place ∙ ap (λ ports. app_of ports segment.dport) c.deref.ensures.value in (
      (λ is. let among = c.begins.ensures.0 is in (
        begins-for c.args.self.now ports flows segment app c.self.view_is place among.0 record_number,
        few-for c.args.self.now ports flows segment app c.self.view_is place among.1,
      )),
      (λ (number, few). c.begins.ensures.1 (
        begins-among c.args.self.now ports flows segment app c.self.view_is place record_number number,
        few-among c.args.self.now ports flows segment app c.self.view_is place few,
      )),
    )
