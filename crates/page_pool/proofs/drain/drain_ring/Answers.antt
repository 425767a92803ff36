use Rattle.std.proofs.Common.{◌∙◌, ◌+◌, ◌≤◌, arith, refl, true, inl, inr, length}
use Rattle.page_pool.proofs.Entries.{DealsRing-none, DealsRing-stray, DealsRing-honoured, honoured-most, stray-most}
use Rattle.page_pool.proofs.drain.drain_ring.Goals.{in-Stray, in-Freed, in-Honoured}
use Rattle.page_pool.proofs.drain.drain_ring.Goals as goal

pub loop-count-init : goal.loop-count-init
loop-count-init g c = record {
  deals = DealsRing-none _ _ _;
  within = omega arith;
  places_is = c.places-places.ensures.value;
  first = λ _. refl;
  cached = c.cached-cached.ensures.value;
  few = c.cached-cached.ensures.few;
  most = inr refl;
  beside = refl;
}

pub loop-count-preserved : goal.loop-count-preserved
loop-count-preserved g c =
    let inv = c.loop-count.invariant in
    record {
      deals = elim c.match-entry.branch [
        | in-Stray w ↦ DealsRing-stray _ _ _ _ _ _ _ _ w.in-Stray.ensures.view.entry w.in-Stray.ensures.view.event
            (rw w.saturating_add-stats.ensures at w.stats-is) inv.deals
        | in-Freed w ↦ let e = w.in-Freed.ensures.view in rw w.stats-is (DealsRing-honoured _ _ _ _ _ _ _ e.entry e.buffer true e.event inv.deals)
        | in-Honoured w ↦ let e = w.in-Honoured.ensures.view in rw w.stats-is (DealsRing-honoured _ _ _ _ _ _ _ e.entry e.buffer e.last e.event inv.deals)
      ];
      within = omega arith;
      places_is = inv.places_is;
      first = λ none. absurd (grind arith);
      cached = c.cached-cached-in-loop-count.ensures.value;
      few = c.cached-cached-in-loop-count.ensures.few;
      most =
          let few : length (g.F.NicFace.seen c.entry.new.self).cache ≤ length (g.F.NicFace.seen c.loop-count.face).cache + 1 = elim c.match-entry.branch [
            | in-Stray w ↦ stray-most _ _ _ w.in-Stray.ensures.view.entry w.in-Stray.ensures.view.event
            | in-Freed w ↦ let e = w.in-Freed.ensures.view in honoured-most _ _ _ e.entry e.buffer true e.event
            | in-Honoured w ↦ let e = w.in-Honoured.ensures.view in honoured-most _ _ _ e.entry e.buffer e.last e.event
          ] in
          inl (omega (arith, few, inv.cached, c.if-cached-enough.true));
      beside = c.entry.ensures.beside ∙ inv.beside;
    }
