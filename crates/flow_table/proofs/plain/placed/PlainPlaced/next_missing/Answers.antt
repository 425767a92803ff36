use Rattle.std.proofs.Common.{is_some, sym, ap, ◌∙◌}
use Rattle.flow_table.{specs.Plain.{byte_in}, proofs.Placing.{missing_within-more}}
use Rattle.flow_table.proofs.plain.placed.PlainPlaced.next_missing.Goals as goal

pub loop-position-preserved : goal.loop-position-preserved
loop-position-preserved c =
    let self = c.args.self.now in
    sym (missing_within-more (byte_in self.bytes.items) self.top c.loop-position.position c.loop-position-test.true
    (ap is_some (sym c.at.ensures) ∙ c.if-is_none.ensures))
    ∙ c.loop-position.invariant
