use Rattle.std.{proofs.Common.{◌≡◌, length, map, sym, ap, ◌∙◌, Some, arith}, specs.List.{slice_get}}
use Rattle.flow_table.{specs.Kept.{entry_shown}, proofs.Entries.{shown_at}}
use Rattle.flow_table.proofs.list.FlowList.at.Goals as goal

pub returns : goal.returns
returns c =
    let entries = c.self.inside.entries.items in
    let count : length (map entry_shown entries) ≡ length c.args.self.now = ap length c.self.view_is in
    ap (λ flows. slice_get flows c.args.number) (sym c.self.view_is)
    ∙ shown_at entries c.args.number c.index.result.now (omega arith)
    ∙ ap (λ entry. Some (entry_shown entry)) (sym c.index.ensures)
