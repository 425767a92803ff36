use Rattle.std.proofs.Common.{◌≡◌, ◌<◌, [], ◌∷◌}
use Rattle.board_face.specs.NicCalls.{IsOpen, apps_of}
use Rattle.board_runs.proofs.searches.steps.send_pieces.Given as goal

abbrev pub invariant-loop : goal.invariant-loop
invariant-loop g l = record {
  going : IsOpen (g.F.NicFace.seen l.face);
  app : l.app < apps_of (g.F.NicFace.seen l.face).setting;
  own : (g.F.NicFace.seen l.face).owns ≡ l.own ∷ [];
  pieces : (g.F.NicFace.seen l.face).pieces ≡ [];
  setting : (g.F.NicFace.seen l.face).setting ≡ (g.F.NicFace.seen l.fn.face).setting;
  beside : g.F.NicFace.beside l.face ≡ g.F.NicFace.beside l.fn.face;
}
