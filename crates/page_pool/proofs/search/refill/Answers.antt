use Rattle.std.proofs.Common.{◌∙◌, refl}
use Rattle.page_pool.proofs.Searching.{RefillsFirst-none, RefillsFirst-ring}
use Rattle.page_pool.proofs.search.refill.Goals as goal

pub loop-app-init : goal.loop-app-init
loop-app-init g c = record {
  refills = RefillsFirst-none _ _ _ c.requires.few;
  end = c.apps-app-end.ensures.value;
  beside = refl;
}

pub loop-app-preserved : goal.loop-app-preserved
loop-app-preserved g c = record {
  refills = RefillsFirst-ring _ _ _ _ _ _ _ _ _ c.loop-app.invariant.refills c.drain_ring.ensures.drains;
  end = c.loop-app.invariant.end;
  beside = c.drain_ring.ensures.beside ∙ c.loop-app.invariant.beside;
}
