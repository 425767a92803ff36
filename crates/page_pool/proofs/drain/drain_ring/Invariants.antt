use Rattle.std.proofs.Common.{◌-◌, ◌≡◌, ◌≤◌, length}
use Rattle.page_pool.specs.Gathering.{DealsRing, HasAtMost}
use Rattle.page_pool.proofs.drain.drain_ring.Given as goal

abbrev pub invariant-loop-count : goal.invariant-loop-count
invariant-loop-count g l = record {
  deals : DealsRing l.initial.stats l.stats (g.F.NicFace.seen l.initial.face) (g.F.NicFace.seen l.face) l.app l.count;
  within : l.count ≤ l.places;
  places_is : l.places ≡ (g.F.NicFace.seen l.initial.face).setting.places;
  first : l.count ≡ 0 → g.F.NicFace.seen l.face ≡ g.F.NicFace.seen l.initial.face;
  cached : l.cached ≡ length (g.F.NicFace.seen l.face).cache;
  few : l.cached ≤ 128;
  most : HasAtMost l.enough (g.F.NicFace.seen l.initial.face) (g.F.NicFace.seen l.face);
  beside : g.F.NicFace.beside l.face ≡ g.F.NicFace.beside l.initial.face;
}

abbrev pub decreases-loop-count : goal.decreases-loop-count
decreases-loop-count g l = l.places - l.count
