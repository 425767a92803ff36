use Rattle.std.specs.Prelude.{◌≡◌, ◌<◌}
use Rattle.board_face.specs.NicCalls.{IsOpen, HasNoToken, apps_of}
use Rattle.board_runs.proofs.searches.steps.card_step.Given as goal

abbrev pub invariant-loop : goal.invariant-loop
invariant-loop g l = record {
  going : IsOpen (g.F.NicFace.seen l.face);
  app : l.app < apps_of (g.F.NicFace.seen l.face).setting;
  nothing : HasNoToken (g.F.NicFace.seen l.face);
  beside : g.F.NicFace.beside l.face ≡ g.F.NicFace.beside l.fn.face;
}
