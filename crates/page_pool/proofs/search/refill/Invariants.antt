use Rattle.std.proofs.Common.{◌≡◌}
use Rattle.board_face.specs.NicCalls.{apps_of}
use Rattle.page_pool.specs.Gathering.{RefillsFirst}
use Rattle.page_pool.proofs.search.refill.Given as goal

abbrev pub invariant-loop-app : goal.invariant-loop-app
invariant-loop-app g l = record {
  refills : RefillsFirst l.initial.stats l.stats (g.F.NicFace.seen l.initial.face) (g.F.NicFace.seen l.face) 64 l.app;
  end : l.app-end ≡ apps_of (g.F.NicFace.seen l.initial.face).setting;
  beside : g.F.NicFace.beside l.face ≡ g.F.NicFace.beside l.initial.face;
}
