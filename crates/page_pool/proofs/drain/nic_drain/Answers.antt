use Rattle.std.proofs.Common.{◌≡◌, ◌∙◌, arith, refl, sym, below_more}
use Rattle.board_face.proofs.LookLemmas.{NicRose-later, NicRose-before}
use Rattle.page_pool.proofs.Rings.{DrainsFirst-none, DrainsFirst-ring}
use Rattle.page_pool.proofs.drain.nic_drain.Goals as goal

pub overflow_add-count : goal.overflow_add-count
overflow_add-count g c =
    let inv = c.loop-app.invariant in
    let ring = c.drain_ring-count.ensures.drains in
    omega (arith, inv.few, ring.within, ring.bounded.1, c.loop-app-test.true, c.apps-app-end.ensures.few)

pub loop-app-init : goal.loop-app-init
loop-app-init g c = record {
  drains = DrainsFirst-none _ _;
  pool = refl;
  few = omega arith;
  end = c.apps-app-end.ensures.value;
  gist = λ _. refl;
  none = λ _ a none. absurd (grind arith);
  beside = refl;
}

pub loop-app-preserved : goal.loop-app-preserved
loop-app-preserved g c =
    let inv = c.loop-app.invariant in
    let ring = c.drain_ring-count.ensures in
    record {
      drains = DrainsFirst-ring _ _ _ _ _ _ _ _ _ _ inv.drains ring.drains (search arith);
      pool = rw inv.pool refl;
      few = omega (arith, inv.few, ring.drains.within, ring.drains.bounded.1);
      end = inv.end;
      gist = λ nothing.
          let none : c.loop-app.count ≡ 0 = omega (arith, nothing) in
          let no_more : c.drain_ring-count.result ≡ 0 = omega (arith, nothing) in
          rw (ring.none no_more (search arith)).0.event (inv.gist none);
      none = λ nothing.
          let none : c.loop-app.count ≡ 0 = omega (arith, nothing) in
          let no_more : c.drain_ring-count.result ≡ 0 = omega (arith, nothing) in
          let saw = ring.none no_more (search arith) in
          below_more _ _
          (λ a lt. (NicRose-before _ _ _ _ (inv.none none a lt).0 ring.drains.deals.deals.looks, (inv.none none a lt).1))
          (NicRose-later _ _ _ _ inv.drains.deals.looks saw.0.rose, rw (sym (inv.gist none), sym inv.beside) (rw (saw.0.event, ring.beside) at saw.1));
      beside = ring.beside ∙ inv.beside;
    }
