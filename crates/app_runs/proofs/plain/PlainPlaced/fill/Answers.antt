use Rattle.std.{proofs.Common.{◌+◌, ◌^◌, nat_eq, ap, ◌∙◌}, specs.Map.{lookup}}
use Rattle.app_runs.proofs.Placing.{placed-more}
use Rattle.app_runs.proofs.plain.PlainPlaced.fill.Goals as goal

pub loop-i-preserved : goal.loop-i-preserved
loop-i-preserved c = record {
  same = c.loop-i.invariant.same;
  placed = λ p. ap (lookup (nat_eq (p + 2 ^ 31))) c.in_ok-push.ensures.items
      ∙ placed-more (λ q. lookup (nat_eq (q + 2 ^ 31)) c.args.self.now.marks.items) c.loop-i.self.marks.items c.args.marks.now c.args.from c.loop-i.i _
      c.loop-i-test.true c.index-marks-i.is c.loop-i.invariant.placed p;
}
