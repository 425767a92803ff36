use Rattle.std.proofs.{Common.{◌≡◌, ◌<◌, length, map, set, ap, ◌∙◌, arith}, Math.ListN.{length-set}, lemmas.List.{length-map}}
use Rattle.frame_headers.specs.Seen.{shown}
use Rattle.flow_table.{specs.{Flows.{seen_by, with_segment}, Placing.{steered_to}, Kept.{entry_shown}}, proofs.Entries.{entries-seen, HasNewest-seen}}
use Rattle.flow_table.proofs.list.FlowList.go_on.Goals as goal

pub invariant_of-self : goal.invariant_of-self
invariant_of-self c =
    let entries = c.self.inside.entries.items in
    let steered = steered_to 0 (shown c.args.segment.now) 0 in
    let count : length (map entry_shown entries) ≡ length c.args.self.now = ap length c.self.view_is in
    let below : c.args.number < length entries = omega (arith, length-map entries entry_shown) in
    let seen = entries-seen entries c.args.number steered c.index_mut.result.now c.see.new.self below
    (c.see.ensures ∙ ap (λ e. seen_by (entry_shown e) (shown c.args.segment.now)) c.index_mut.ensures.value) in (
      omega (arith, length-set entries c.args.number c.see.new.self, c.self.invariant.0),
      HasNewest-seen entries (set entries c.args.number c.see.new.self) c.self.inside.newest c.args.number steered (omega arith) seen c.self.invariant.1,
    )

pub returns : goal.returns
returns c app record_number =
    let entries = c.self.inside.entries.items in
    let steered = steered_to app (shown c.args.segment.now) record_number in
    let count : length (map entry_shown entries) ≡ length c.args.self.now = ap length c.self.view_is in
    let below : c.args.number < length entries = omega (arith, length-map entries entry_shown) in
    entries-seen entries c.args.number steered c.index_mut.result.now c.see.new.self below
    (c.see.ensures ∙ ap (λ e. seen_by (entry_shown e) (shown c.args.segment.now)) c.index_mut.ensures.value)
    ∙ ap (λ flows. with_segment flows c.args.number steered) c.self.view_is
