use Rattle.std.proofs.Common.{List, ap, ◌∙◌}
use Rattle.flow_table.{specs.{declared.plain.placed.{PlacedByte.{PlacedByte}, PlainPlaced.{PlainPlaced}}, Plain.{byte_in}}, proofs.Placing.{placed_more, passed_over}}
use Rattle.flow_table.proofs.plain.placed.PlainPlaced.fill.Goals.{then-place-ge-BIAS+in_ok-push, else-place-ge-BIAS}
use Rattle.flow_table.proofs.plain.placed.PlainPlaced.fill.Goals as goal

pub loop-i-preserved : goal.loop-i-preserved
loop-i-preserved c = elim c.if-place-ge-BIAS.branch [
  | then-place-ge-BIAS+in_ok-push w ↦ record {
    same = ap (λ (s : PlainPlaced). s.top) w.self-is ∙ c.loop-i.invariant.same;
    placed = λ p.
        ap (λ (s : PlainPlaced). byte_in s.bytes.items p) w.self-is
        ∙ ap (λ (items : List PlacedByte). byte_in items p) w.in_ok-push.ensures.items
        ∙ placed_more (byte_in c.args.self.now.bytes.items) c.loop-i.self.bytes.items c.args.values.now c.args.from c.loop-i.i 0 c.loop-i-test.true
        c.loop-i.invariant.placed w.if-place-ge-BIAS.true p;
  }
  | else-place-ge-BIAS w ↦ record {
    same = ap (λ (s : PlainPlaced). s.top) w.self-is ∙ c.loop-i.invariant.same;
    placed = λ p.
        ap (λ (s : PlainPlaced). byte_in s.bytes.items p) w.self-is
        ∙ passed_over (byte_in c.args.self.now.bytes.items) c.loop-i.self.bytes.items c.args.values.now c.args.from c.loop-i.i 0 c.loop-i-test.true
        c.loop-i.invariant.placed w.if-place-ge-BIAS.false p;
  }
]
