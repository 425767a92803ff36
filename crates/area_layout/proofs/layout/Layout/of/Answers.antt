use Rattle.std.proofs.Common.{refl, rules, arith}
use Rattle.area_layout.{specs.Layout.{MakeLayout}, proofs.Making.{made}}
use Rattle.area_layout.proofs.layout.Layout.of.Goals as goal

pub sums-buffers-requires-clause-each : goal.sums-buffers-requires-clause-each
sums-buffers-requires-clause-each c = c.are_areas.ensures.0 c.if-not-are_areas.false

makes : (c : goal.After-listed_area-4) → MakeLayout c.args.areas.now c.args.reserves
makes c = record {
  few = (search rules, c.if-areas-gt-MAX_AREAS.false);
  each = c.are_areas.ensures.0 c.if-not-are_areas.false;
  buffers = omega (arith, c.sums-buffers.ensures.buffers);
  bytes = omega (arith, c.sums-buffers.ensures.bytes);
  kept = (let some = c.if-reserves-eq0.false in omega arith, c.if-reserves-gt-MAX_RESERVES.false);
}

pub invariant_of-result : goal.invariant_of-result
invariant_of-result c =
    rw (c.listed_area.ensures, c.listed_area-2.ensures, c.listed_area-3.ensures, c.listed_area-4.ensures)
    (made c.args.areas.now c.args.reserves (makes c))

pub returns-clause-fits : goal.returns-clause-fits
returns-clause-fits c = (λ _. makes c, λ _. refl)
