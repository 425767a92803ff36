use Rattle.std.proofs.Common.{◌≡◌, ℕ, ◌*◌, ◌<◌, ◌≤◌}
use Rattle.board_face.specs.{Looks.{NicRose}, NicCalls.{apps_of}, NicEvents.{nic_gist}, declared.views.nic.NicLook.TheVariants.{RingEmpty}}
use Rattle.page_pool.specs.Dealing.{DrainsFirst}
use Rattle.page_pool.proofs.drain.nic_drain.Given as goal

abbrev pub invariant-loop-app : goal.invariant-loop-app
invariant-loop-app g l = record {
  drains : DrainsFirst l.initial.pool-inside.stats l.pool-inside.stats (g.F.NicFace.seen l.initial.face) (g.F.NicFace.seen l.face) l.count l.app;
  pool : l.pool-inside ≡ record l.initial.pool-inside { stats = l.pool-inside.stats };
  few : l.count ≤ l.app * 256;
  end : l.app-end ≡ apps_of (g.F.NicFace.seen l.initial.face).setting;
  gist : l.count ≡ 0 → nic_gist (g.F.NicFace.seen l.face) ≡ nic_gist (g.F.NicFace.seen l.initial.face);
  none : l.count ≡ 0 → (a : ℕ) → a < l.app → NicRose (RingEmpty a) (g.F.NicFace.seen l.initial.face) (g.F.NicFace.seen l.face)
      × g.F.NicFace.tells (RingEmpty a) (nic_gist (g.F.NicFace.seen l.initial.face)) (g.F.NicFace.beside l.initial.face);
  beside : g.F.NicFace.beside l.face ≡ g.F.NicFace.beside l.initial.face;
}
